-- Closed sets, one entry after another.
use Rattle.std.proofs.Common.{◌≡◌, ℕ, zero, suc, ◌<◌, Bool, true, false, Some, List, [], ◌∷◌, refl, sym, subst, ◌∙◌, arith, inl, inr, true≢false}
use Rattle.std.specs.Prelude.{slice_get, ⊤}
use Rattle.std.proofs.lemmas.Bool.{cases_Bool}
use Rattle.persist_buffer.specs.declared.entry.PendingEntry.{PendingEntry}
use Rattle.pending_images.specs.ClosedSets.{HoldsPlace, IsClosed, leaves_first, line_named}

-- of the entries that follow one, those with a true flag need not wait for it
abbrev pub NoneWaits : PendingEntry → List PendingEntry → List Bool → Type 0
NoneWaits e [] flags = ⊤
NoneWaits e (f ∷ fs) [] = ⊤
NoneWaits e (f ∷ fs) (true ∷ flags) = (leaves_first (line_named f) e ≡ false) × NoneWaits e fs flags
NoneWaits e (f ∷ fs) (false ∷ flags) = NoneWaits e fs flags

-- no entry with a true flag waits for one before it that has none
abbrev pub NoneIsLeft : List PendingEntry → List Bool → Type 0
NoneIsLeft [] flags = ⊤
NoneIsLeft (e ∷ es) [] = ⊤
NoneIsLeft (e ∷ es) (true ∷ flags) = NoneIsLeft es flags
NoneIsLeft (e ∷ es) (false ∷ flags) = NoneWaits e es flags × NoneIsLeft es flags

none_waits : (e : PendingEntry) (es : List PendingEntry) (flags : List Bool)
    → ((j : ℕ) (f : PendingEntry) → slice_get es j ≡ Some f → HoldsPlace flags j → leaves_first (line_named f) e ≡ false) → NoneWaits e es flags
none_waits e [] flags h = tt
none_waits e (f ∷ fs) [] h = tt
none_waits e (f ∷ fs) (true ∷ flags) h = (h 0 f refl refl, none_waits e fs flags (λ j g at flag. h (suc j) g at flag))
none_waits e (f ∷ fs) (false ∷ flags) h = none_waits e fs flags (λ j g at flag. h (suc j) g at flag)

waits_not : (e : PendingEntry) (es : List PendingEntry) (flags : List Bool) (j : ℕ) (f : PendingEntry) → NoneWaits e es flags → slice_get es j ≡ Some f → HoldsPlace flags j
    → leaves_first (line_named f) e ≡ false
waits_not e [] flags j f h at flag = absurd (cc)
waits_not e (g ∷ gs) [] j f h at flag = absurd (cc)
waits_not e (g ∷ gs) (true ∷ flags) zero f h at flag = let same : g ≡ f = cc in subst (λ (x : PendingEntry). leaves_first (line_named x) e ≡ false) same h.0
waits_not e (g ∷ gs) (true ∷ flags) (suc j) f h at flag = waits_not e gs flags j f h.1 at flag
waits_not e (g ∷ gs) (false ∷ flags) zero f h at flag = absurd (cc)
waits_not e (g ∷ gs) (false ∷ flags) (suc j) f h at flag = waits_not e gs flags j f h at flag

-- what follows the first entry
later : (e : PendingEntry) (es : List PendingEntry) (flag : Bool) (flags : List Bool) → IsClosed (e ∷ es) (flag ∷ flags) → IsClosed es flags
later e es flag flags h = record { whole = λ i j first next lt at_i at_j before held. h.whole (suc i) (suc j) first next (omega arith) at_i at_j before held }

-- an entry without a flag, for which none may wait
unheld : (e : PendingEntry) (es : List PendingEntry) (flags : List Bool) → IsClosed (e ∷ es) (false ∷ flags) → (j : ℕ) (f : PendingEntry) → slice_get es j ≡ Some f → HoldsPlace flags j
    → leaves_first (line_named f) e ≡ false
unheld e es flags h j f at flag =
    elim (cases_Bool (leaves_first (line_named f) e)) [
      | inl waits ↦ let held : HoldsPlace (false ∷ flags) 0 = h.whole 0 (suc j) e f (omega arith) refl at waits flag in absurd (cc)
      | inr free ↦ free
    ]

pub none_is_left : (es : List PendingEntry) (flags : List Bool) → IsClosed es flags → NoneIsLeft es flags
none_is_left [] flags h = tt
none_is_left (e ∷ es) [] h = tt
none_is_left (e ∷ es) (true ∷ flags) h = none_is_left es flags (later e es true flags h)
none_is_left (e ∷ es) (false ∷ flags) h = (none_waits e es flags (unheld e es flags h), none_is_left es flags (later e es false flags h))

held_before : (es : List PendingEntry) (flags : List Bool) → NoneIsLeft es flags → (i j : ℕ) (first next : PendingEntry) → i < j → slice_get es i ≡ Some first → slice_get es j ≡ Some next
    → leaves_first (line_named next) first ≡ true → HoldsPlace flags j → HoldsPlace flags i
held_before [] flags h i j first next lt at_i at_j before held = absurd (cc)
held_before (e ∷ es) [] h i j first next lt at_i at_j before held = absurd (cc)
held_before (e ∷ es) (flag ∷ flags) h i zero first next lt at_i at_j before held = absurd (omega arith)
held_before (e ∷ es) (true ∷ flags) h zero (suc j) first next lt at_i at_j before held = refl
held_before (e ∷ es) (false ∷ flags) h zero (suc j) first next lt at_i at_j before held =
    let same : e ≡ first = cc in
    let not : leaves_first (line_named next) e ≡ false = waits_not e es flags j next h.0 at_j held in
    let not_first : leaves_first (line_named next) first ≡ false = subst (λ (x : PendingEntry). leaves_first (line_named next) x ≡ false) same not in
    absurd (true≢false (sym before ∙ not_first))
held_before (e ∷ es) (true ∷ flags) h (suc i) (suc j) first next lt at_i at_j before held = held_before es flags h i j first next (omega arith) at_i at_j before held
held_before (e ∷ es) (false ∷ flags) h (suc i) (suc j) first next lt at_i at_j before held = held_before es flags h.1 i j first next (omega arith) at_i at_j before held

pub closed_of : (es : List PendingEntry) (flags : List Bool) → NoneIsLeft es flags → IsClosed es flags
closed_of es flags h = record { whole = held_before es flags h }
