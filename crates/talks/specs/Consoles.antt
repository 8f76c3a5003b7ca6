-- What goes on at a reader and a writer.
use Rattle.std.specs.Prelude.{◌≡◌, ℕ, ◌+◌, List, [], ◌∷◌, ◌++◌, take, Result, Ok, Err, Option, Some, None, refl, Bool, true, false, ◌||◌, IfSome}
use Rattle.std.specs.Io.KnownBytes.{Appends, Consumes}
use Rattle.std.proofs.Common.{append_assoc, arith, sym, ◌∙◌, ap}
use Rattle.std.proofs.lemmas.List.{append-nil}
use Rattle.talks.specs.Events.{Event, Heard, Told, Ended, ReadFailed, WriteFailed}
use Rattle.commands.specs.Devices.{Device}

-- the bytes that are heard
abbrev pub heard_in : List Event → List ℕ
heard_in [] = []
heard_in (Heard b ∷ talk) = b ∷ heard_in talk
heard_in (Told b ∷ talk) = heard_in talk
heard_in (Ended ∷ talk) = heard_in talk
heard_in (ReadFailed ∷ talk) = heard_in talk
heard_in (WriteFailed ∷ talk) = heard_in talk

-- the bytes that are told
abbrev pub told_in : List Event → List ℕ
told_in [] = []
told_in (Heard b ∷ talk) = told_in talk
told_in (Told b ∷ talk) = b ∷ told_in talk
told_in (Ended ∷ talk) = told_in talk
told_in (ReadFailed ∷ talk) = told_in talk
told_in (WriteFailed ∷ talk) = told_in talk

-- how many reads fail
abbrev pub failed_reads_in : List Event → ℕ
failed_reads_in [] = 0
failed_reads_in (Heard b ∷ talk) = failed_reads_in talk
failed_reads_in (Told b ∷ talk) = failed_reads_in talk
failed_reads_in (Ended ∷ talk) = failed_reads_in talk
failed_reads_in (ReadFailed ∷ talk) = 1 + failed_reads_in talk
failed_reads_in (WriteFailed ∷ talk) = failed_reads_in talk

-- how many writes fail
abbrev pub failed_writes_in : List Event → ℕ
failed_writes_in [] = 0
failed_writes_in (Heard b ∷ talk) = failed_writes_in talk
failed_writes_in (Told b ∷ talk) = failed_writes_in talk
failed_writes_in (Ended ∷ talk) = failed_writes_in talk
failed_writes_in (ReadFailed ∷ talk) = failed_writes_in talk
failed_writes_in (WriteFailed ∷ talk) = 1 + failed_writes_in talk

-- whether a read was at the end
abbrev pub has_end : List Event → Bool
has_end [] = false
has_end (Heard b ∷ talk) = has_end talk
has_end (Told b ∷ talk) = has_end talk
has_end (Ended ∷ talk) = true
has_end (ReadFailed ∷ talk) = has_end talk
has_end (WriteFailed ∷ talk) = has_end talk

-- a text is written whole, or a beginning of it before a write fails
abbrev pub WritesAll : {E : Type 0} → Device → Device → List ℕ → Result (Unit {0}) E → Type 0
WritesAll old new text (Ok done) = Appends old.bytes new.bytes text × (new.failures ≡ old.failures)
WritesAll old new text (Err _) = ((n : ℕ) × Appends old.bytes new.bytes (take n text)) × (new.failures ≡ old.failures + 1)

-- The bytes that are heard are those that the reader had, in order, and those that are told are those that the writer has
-- more, in order, where they are known. Each failure is one of theirs.
pub record WentOn (reader reader' writer writer' : Device) (talk : List Event) : Type 0 where
  pub heard : Consumes reader.bytes reader'.bytes (heard_in talk)
  pub told : Appends writer.bytes writer'.bytes (told_in talk)
  pub unheard : reader'.failures ≡ reader.failures + failed_reads_in talk
  pub untold : writer'.failures ≡ writer.failures + failed_writes_in talk
  -- where a read was at the end, all known bytes were heard
  pub end : has_end talk ≡ true → IfSome reader.bytes (λ known. known ≡ heard_in talk)

heard_both : (x y : List Event) → heard_in (x ++ y) ≡ heard_in x ++ heard_in y
heard_both [] y = refl
heard_both (Heard b ∷ x) y = ap (λ (bs : List ℕ). b ∷ bs) (heard_both x y)
heard_both (Told b ∷ x) y = heard_both x y
heard_both (Ended ∷ x) y = heard_both x y
heard_both (ReadFailed ∷ x) y = heard_both x y
heard_both (WriteFailed ∷ x) y = heard_both x y

told_both : (x y : List Event) → told_in (x ++ y) ≡ told_in x ++ told_in y
told_both [] y = refl
told_both (Heard b ∷ x) y = told_both x y
told_both (Told b ∷ x) y = ap (λ (bs : List ℕ). b ∷ bs) (told_both x y)
told_both (Ended ∷ x) y = told_both x y
told_both (ReadFailed ∷ x) y = told_both x y
told_both (WriteFailed ∷ x) y = told_both x y

unheard_both : (x y : List Event) → failed_reads_in (x ++ y) ≡ failed_reads_in x + failed_reads_in y
unheard_both [] y = omega arith
unheard_both (Heard b ∷ x) y = unheard_both x y
unheard_both (Told b ∷ x) y = unheard_both x y
unheard_both (Ended ∷ x) y = unheard_both x y
unheard_both (ReadFailed ∷ x) y = omega (arith, unheard_both x y)
unheard_both (WriteFailed ∷ x) y = unheard_both x y

untold_both : (x y : List Event) → failed_writes_in (x ++ y) ≡ failed_writes_in x + failed_writes_in y
untold_both [] y = omega arith
untold_both (Heard b ∷ x) y = untold_both x y
untold_both (Told b ∷ x) y = untold_both x y
untold_both (Ended ∷ x) y = untold_both x y
untold_both (ReadFailed ∷ x) y = untold_both x y
untold_both (WriteFailed ∷ x) y = omega (arith, untold_both x y)

consumes_both : (a b c : Option (List ℕ)) (x y : List ℕ) → Consumes a b x → Consumes b c y → Consumes a c (x ++ y)
consumes_both None b c x y p q = tt
consumes_both (Some a) None c x y p q = absurd p
consumes_both (Some a) (Some b) None x y p q = absurd q
consumes_both (Some a) (Some b) (Some c) x y p q = p ∙ ap (λ (bs : List ℕ). x ++ bs) q ∙ sym (append_assoc x y c)

appends_both : (a b c : Option (List ℕ)) (x y : List ℕ) → Appends a b x → Appends b c y → Appends a c (x ++ y)
appends_both None b c x y p q = tt
appends_both (Some a) None c x y p q = absurd p
appends_both (Some a) (Some b) None x y p q = absurd q
appends_both (Some a) (Some b) (Some c) x y p q = q ∙ ap (λ (bs : List ℕ). bs ++ y) p ∙ append_assoc a x y

consumes_none : (a : Option (List ℕ)) → Consumes a a []
consumes_none None = tt
consumes_none (Some a) = refl

appends_none : (a : Option (List ℕ)) → Appends a a []
appends_none None = tt
appends_none (Some a) = sym (append-nil a)

end_both : (x y : List Event) → has_end (x ++ y) ≡ (has_end x || has_end y)
end_both [] y = refl
end_both (Heard b ∷ x) y = end_both x y
end_both (Told b ∷ x) y = end_both x y
end_both (Ended ∷ x) y = refl
end_both (ReadFailed ∷ x) y = end_both x y
end_both (WriteFailed ∷ x) y = end_both x y

nil_left : (x y : List ℕ) → [] ≡ x ++ y → x ≡ []
nil_left [] y h = refl
nil_left (b ∷ x) y h = cc

nothing_behind : (x y : List ℕ) → x ≡ x ++ y → y ≡ []
nothing_behind [] y h = sym h
nothing_behind (b ∷ x) y h = let tails : x ≡ x ++ y = cc in nothing_behind x y tails

-- all known bytes were heard before, or are heard now
all_heard : (a b c : Option (List ℕ)) (x y : List ℕ) (e f : Bool) → (e || f) ≡ true → Consumes a b x → Consumes b c y
    → (e ≡ true → IfSome a (λ known. known ≡ x)) → (f ≡ true → IfSome b (λ known. known ≡ y)) → IfSome a (λ known. known ≡ x ++ y)
all_heard None b c x y e f some p q before now = tt
all_heard (Some a) None c x y e f some p q before now = absurd p
all_heard (Some a) (Some b) None x y e f some p q before now = absurd q
all_heard (Some a) (Some b) (Some c) x y true f some p q before now =
    let none : b ≡ [] = nothing_behind x b (sym (before refl) ∙ p) in
    before refl ∙ sym (append-nil x) ∙ ap (λ (bs : List ℕ). x ++ bs) (sym (nil_left y c (sym none ∙ q)))
all_heard (Some a) (Some b) (Some c) x y false f some p q before now = p ∙ ap (λ (bs : List ℕ). x ++ bs) (now some)

pub nothing_went : (r w : Device) → WentOn r r w w []
nothing_went r w = record { heard = consumes_none r.bytes; told = appends_none w.bytes; unheard = omega arith; untold = omega arith; end = λ h. absurd (cc) }

pub both_went : (r s t u v w : Device) (x y : List Event) → WentOn r s u v x → WentOn s t v w y → WentOn r t u w (x ++ y)
both_went r s t u v w x y p q = record {
  heard = rw (heard_both x y) (consumes_both r.bytes s.bytes t.bytes (heard_in x) (heard_in y) p.heard q.heard);
  told = rw (told_both x y) (appends_both u.bytes v.bytes w.bytes (told_in x) (told_in y) p.told q.told);
  unheard = omega (arith, unheard_both x y, p.unheard, q.unheard);
  untold = omega (arith, untold_both x y, p.untold, q.untold);
  end = λ some. rw (heard_both x y) (all_heard r.bytes s.bytes t.bytes (heard_in x) (heard_in y) (has_end x) (has_end y) (sym (end_both x y) ∙ some) p.heard q.heard p.end q.end);
}
