use Rattle.std.proofs.Common.{◌≡◌, ◌++◌, drop, string_bytes}
use Rattle.std.specs.List.{flat_map}
use Rattle.commands.specs.ImageTexts.{image_text}
use Rattle.jobs.proofs.image_list.push_images.Given as goal

abbrev pub invariant-loop-image : goal.invariant-loop-image
invariant-loop-image l = string_bytes l.text ++ flat_map image_text (drop l.image-index l.images) ≡ string_bytes l.fn.text ++ flat_map image_text l.images
