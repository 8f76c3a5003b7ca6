use Rattle.std.proofs.Common.{◌≡◌, ◌++◌, drop, string_bytes}
use Rattle.jobs.specs.ImageReports.{values_text}
use Rattle.jobs.proofs.image_text.push_places.Given as goal

abbrev pub invariant-loop-place : goal.invariant-loop-place
invariant-loop-place l = string_bytes l.text ++ values_text (drop l.place-index l.places) ≡ string_bytes l.fn.text ++ values_text l.places
