-- Steps that are taken back, one after another.
use Rattle.std.proofs.Common.{◌≡◌, ℕ, zero, suc, ◌+◌, ◌-◌, ◌<◌, ◌≤◌, List, [], ◌++◌, length, true, false, Result, Ok, Err, refl, sym, ◌∙◌, ap, subst, arith}
use Rattle.std.proofs.lemmas.List.{length-take-le}
use Rattle.std.specs.Prelude.{OnErr, OnOk}
use Rattle.debugger.specs.declared.fault.SessionFault.{SessionFault}
use Rattle.debugger.specs.Sessions.{SessionValue, unmade}
use Rattle.debug_scripts.specs.Ahead.{Ahead}
use Rattle.debug_scripts.specs.SessionTexts.{back_text}
use Rattle.conversations.specs.Answered.{KeepsShape, answer, place, reversed_at}
use Rattle.conversations.specs.Desks.{Declaration}
use Rattle.conversations.specs.Reversing.{is_stopped, reversed, unless_stopped}
use Rattle.conversations.proofs.AnswersGiven.{unmade_shape}

-- a step is taken back where there is one
pub one_back : (v w : SessionValue) (r : Result (Unit {0}) SessionFault) → OnOk r (w ≡ unmade v 1) → OnErr r (length v.past.history < 1) → 0 < length v.past.history → w ≡ unmade v 1
one_back v w (Ok done) back far some = back
one_back v w (Err fault) back far some = absurd (omega (arith, far, some))

one_less : (v w : SessionValue) (n m : ℕ) → n ≡ m + 1 → w ≡ unmade v 1 → reversed n v ≡ unless_stopped (reversed m) w
one_less v w zero m left back = absurd (omega (arith, left))
one_less v w (suc n) m left back =
    let same : m ≡ n = omega (arith, left) in
    rw (same, back) refl

-- it is stopped there
pub stopped_there : (v w : SessionValue) (n m : ℕ) → n ≡ m + 1 → w ≡ unmade v 1 → is_stopped w ≡ true → reversed n v ≡ w
stopped_there v w n m left back stops = rw stops at (one_less v w n m left back)

-- or it goes on
pub goes_on_back : (v w : SessionValue) (n m : ℕ) → n ≡ m + 1 → w ≡ unmade v 1 → is_stopped w ≡ false → reversed m w ≡ reversed n v
goes_on_back v w n m left back passes = sym (rw passes at (one_less v w n m left back))

-- a step fewer is there
pub one_fewer : (v w : SessionValue) → w ≡ unmade v 1 → length w.past.history ≡ length v.past.history - 1
one_fewer v w back = ap (λ (x : SessionValue). length x.past.history) back ∙ length-take-le (length v.past.history - 1) v.past.history (omega arith)

-- the words stay
pub shape_kept_back : (u v w : SessionValue) → KeepsShape u v → w ≡ unmade v 1 → KeepsShape u w
shape_kept_back u v w keeps back = subst (λ (x : SessionValue). KeepsShape u x) (sym back) (λ names h. unmade_shape v 1 names (keeps names h))

-- or nothing is left
pub none_left : (n : ℕ) (u v : SessionValue) → n ≤ 0 → reversed n v ≡ u → v ≡ u
none_left zero u v over same = same
none_left (suc n) u v over same = absurd (omega (arith, over))

-- it is answered how many steps were taken back
pub reversed_so : {E : Type 0} (v w : SessionValue) (n : ℕ) (old text : List ℕ) (r : Result (Unit {0}) E) → n ≡ length v.past.history - length w.past.history
    → w ≡ reversed (length v.past.history) v → OnOk r (text ≡ old ++ back_text n (Ok tt)) → old ≡ []
    → OnOk r ((a : Ahead) (ds : List Declaration) → answer (place w a ds) text ≡ reversed_at (place v a ds))
reversed_so v w n old text (Ok done) count is written none = λ a ds. rw (written, none, count, is) refl
reversed_so v w n old text (Err fault) count is written none = tt
