-- Turns, one after another.
use Rattle.std.proofs.Common.{◌≡◌, ℕ, ◌+◌, List, [], ◌∷◌, ◌++◌, Bool, true, false, Result, Ok, Err, refl, sym, ◌∙◌, ap, subst, arith, append_assoc}
use Rattle.std.proofs.lemmas.List.{append-nil}
use Rattle.talks.specs.declared.fault.TalkFault.{TalkFault}
use Rattle.talks.specs.Events.{Event}
use Rattle.talks.specs.Hearing.{line_size}
use Rattle.talks.specs.Conversations.{AreMiddle, BreaksOff, Closes, Converses, Exchange, IsMiddle, Partner, Turns, exchange, exchanges, max_heard, place_after, size}

-- Lines were heard and answered, and so many bytes may still be heard.
pub record GoesOn {P F : Type 0} (partner : Partner P F) (Went : List Event → Type 0) (p q : P) (left : ℕ) : Type 0 where
  pub lines : List (Exchange F)
  pub middle : AreMiddle partner p lines
  pub limit : left + size lines ≡ max_heard
  pub went : Went (exchanges partner p lines)
  pub place : q ≡ place_after partner p lines

size_more : {F : Type 0} (lines : List (Exchange F)) (x : Exchange F) → size (lines ++ x ∷ []) ≡ size lines + line_size true x.line
size_more [] x = omega arith
size_more (y ∷ lines) x = omega (arith, size_more lines x)

module _ {P F : Type 0} (partner : Partner P F) where
  middle_more : (p : P) (lines : List (Exchange F)) (x : Exchange F) → AreMiddle partner p lines → IsMiddle partner (place_after partner p lines) x → AreMiddle partner p (lines ++ x ∷ [])
  middle_more p [] x all one = (one, tt)
  middle_more p (y ∷ lines) x all one = (all.0, middle_more (partner.next p y.line y.found) lines x all.1 one)

  place_more : (p : P) (lines : List (Exchange F)) (x : Exchange F) → place_after partner p (lines ++ x ∷ []) ≡ partner.next (place_after partner p lines) x.line x.found
  place_more p [] x = refl
  place_more p (y ∷ lines) x = place_more (partner.next p y.line y.found) lines x

  exchanges_more : (p : P) (lines : List (Exchange F)) (x : Exchange F)
      → exchanges partner p (lines ++ x ∷ []) ≡ exchanges partner p lines ++ exchange partner (place_after partner p lines) true x.line x.found
  exchanges_more p [] x = append-nil (exchange partner p true x.line x.found)
  exchanges_more p (y ∷ lines) x =
      let after = partner.next p y.line y.found in
      ap (λ (es : List Event). exchange partner p true y.line y.found ++ es) (exchanges_more after lines x)
      ∙ sym (append_assoc (exchange partner p true y.line y.found) (exchanges partner after lines) (exchange partner (place_after partner after lines) true x.line x.found))

module _ {T P F : Type 0} (Went : T → T → List Event → Type 0) (nothing : (t : T) → Went t t []) (both : (a b c : T) (x y : List Event) → Went a b x → Went b c y → Went a c (x ++ y))
    (partner : Partner P F) where
  pub begun : (t : T) (p : P) → GoesOn partner (Went t t) p p max_heard
  begun t p = record { lines = []; middle = tt; limit = refl; went = nothing t; place = refl }

  pub one_more : (a b c : T) (p q r : P) (left new : ℕ) → GoesOn partner (Went a b) p q left → Turns partner (Went b c) q r left new (Ok true)
      → GoesOn partner (Went a c) p r new
  one_more a b c p q r left new so (x, is_one, went, next, taken) = record {
    lines = so.lines ++ x ∷ [];
    middle = middle_more partner p so.lines x so.middle (subst (λ (y : P). IsMiddle partner y x) so.place is_one);
    limit = omega (arith, so.limit, taken, size_more so.lines x);
    went = subst (λ (es : List Event). Went a c es) (sym (exchanges_more partner p so.lines x))
        (both a b c _ _ so.went (subst (λ (y : P). Went b c (exchange partner y true x.line x.found)) so.place went));
    place = next ∙ ap (λ (y : P). partner.next y x.line x.found) so.place ∙ sym (place_more partner p so.lines x);
  }

  pub closed : (a b c : T) (p q r : P) (left new : ℕ) → GoesOn partner (Went a b) p q left → Turns partner (Went b c) q r left new (Ok false)
      → Converses partner (Went a c) p r (Ok tt)
  closed a b c p q r left new so (talk, went, ends) = record {
    lines = so.lines;
    middle = so.middle;
    left = left;
    limit = so.limit;
    last = talk;
    went = both a b c _ _ so.went went;
    ends = subst (λ (x : P). Closes partner x r talk) so.place ends;
  }

  pub broken : (a b c : T) (p q r : P) (left new : ℕ) (fault : TalkFault) → GoesOn partner (Went a b) p q left → Turns partner (Went b c) q r left new (Err fault)
      → Converses partner (Went a c) p r (Err fault)
  broken a b c p q r left new fault so (talk, went, ends) = record {
    lines = so.lines;
    middle = so.middle;
    left = left;
    limit = so.limit;
    last = talk;
    went = both a b c _ _ so.went went;
    ends = subst (λ (x : P). BreaksOff partner x left r talk fault) so.place ends;
  }
