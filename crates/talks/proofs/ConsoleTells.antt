-- A text is told by a console.
use Rattle.std.proofs.Common.{◌≡◌, ℕ, ◌+◌, List, [], ◌∷◌, ◌++◌, take, Bool, true, false, Option, Some, None, Result, Ok, Err, refl, sym, ◌∙◌, ap, arith, subst}
use Rattle.std.specs.Prelude.{IfSome}
use Rattle.std.specs.Io.KnownBytes.{Appends, Consumes}
use Rattle.std.proofs.lemmas.List.{append-nil}
use Rattle.talks.specs.Events.{Event, Told, WriteFailed, Tells, told}
use Rattle.talks.specs.Consoles.{WentOn, heard_in, told_in, failed_reads_in, failed_writes_in, has_end, WritesAll}
use Rattle.commands.specs.Devices.{Device}

heard_text : (text : List ℕ) (more : List Event) → heard_in (told text ++ more) ≡ heard_in more
heard_text [] more = refl
heard_text (b ∷ text) more = heard_text text more

told_text : (text : List ℕ) (more : List Event) → told_in (told text ++ more) ≡ text ++ told_in more
told_text [] more = refl
told_text (b ∷ text) more = ap (λ (bs : List ℕ). b ∷ bs) (told_text text more)

unheard_text : (text : List ℕ) (more : List Event) → failed_reads_in (told text ++ more) ≡ failed_reads_in more
unheard_text [] more = refl
unheard_text (b ∷ text) more = unheard_text text more

untold_text : (text : List ℕ) (more : List Event) → failed_writes_in (told text ++ more) ≡ failed_writes_in more
untold_text [] more = refl
untold_text (b ∷ text) more = untold_text text more

end_text : (text : List ℕ) (more : List Event) → has_end (told text ++ more) ≡ has_end more
end_text [] more = refl
end_text (b ∷ text) more = end_text text more

consumes_none : (a : Option (List ℕ)) → Consumes a a []
consumes_none None = tt
consumes_none (Some a) = refl

-- a text and then failures of writes
told_and : (r w w' : Device) (text : List ℕ) (more : List Event) → heard_in more ≡ [] → told_in more ≡ [] → failed_reads_in more ≡ 0 → has_end more ≡ false
    → Appends w.bytes w'.bytes text → w'.failures ≡ w.failures + failed_writes_in more → WentOn r r w w' (told text ++ more)
told_and r w w' text more quiet same well unended appends failures = record {
  heard = rw (heard_text text more, quiet) (consumes_none r.bytes);
  told = rw (told_text text more, same, append-nil) appends;
  unheard = omega (arith, unheard_text text more, well);
  untold = omega (arith, untold_text text more, failures);
  end = λ ends. let never : false ≡ true = sym unended ∙ sym (end_text text more) ∙ ends in absurd (cc);
}

pub tells : {E : Type 0} (r w w' : Device) (text : List ℕ) (result : Result (Unit {0}) E) → WritesAll w w' text result
    → Tells (λ (talk : List Event). WentOn r r w w' talk) text result
tells r w w' text (Ok done) all =
    subst (λ (talk : List Event). WentOn r r w w' talk) (append-nil (told text)) (told_and r w w' text [] refl refl refl refl all.0 (omega (arith, all.1)))
tells r w w' text (Err error) ((n, part), one) = (n, told_and r w w' (take n text) (WriteFailed ∷ []) refl refl refl refl part one)
