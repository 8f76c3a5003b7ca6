-- No form begins another; and what an answer of the reader of one form says of the bytes.
use Rattle.std.proofs.Common.{◌≡◌, ℕ, List, [], ◌∷◌, ◌++◌, length, Result, Ok, Err, refl, sym, ap, ◌∙◌, append_assoc, arith}
use Rattle.std.proofs.lemmas.List.{append-nil, length-append, nil_from_length}
use Rattle.codec.specs.declared.form.Form.{Form}
use Rattle.codec.specs.declared.form.Form.TheVariants.{Nop}
use Rattle.codec.specs.declared.form.Miss.{Miss}
use Rattle.codec.specs.declared.form.Miss.TheVariants.{Unknown, Truncated}
use Rattle.codec.specs.Forms.{bytes_of, Fits}
use Rattle.codec.specs.Reading.{Byte, first, form_at}
use Rattle.codec.specs.Faults.{IsFirstForm, IsCut, HasNoForm}
use Rattle.codec.proofs.Numbers.{IsBytes, IsBytes-append}
use Rattle.codec.proofs.Readers.{unknown_stays, truncated_goes_on, takes, Takes}
use Rattle.codec.proofs.FormsAreReadAgain.{again}
use Rattle.codec.proofs.FormEndings.{always_ends}
use Rattle.codec.proofs.Spellings.{spells_all}

-- no form begins another

pub one_form : (x y : Form) (a b : List ℕ) → Fits x → Fits y → bytes_of x ++ a ≡ bytes_of y ++ b → (x ≡ y) × (a ≡ b)
one_form x y a b f g e =
    let mine : form_at (bytes_of x ++ a) ≡ Ok (x, a) = again x a f in
    let other : form_at (bytes_of y ++ b) ≡ Ok (y, b) = again y b g in
    let same : form_at (bytes_of x ++ a) ≡ form_at (bytes_of y ++ b) = ap form_at e in
    let pair : (x, a) ≡ (y, b) = cc in
    (ap (λ (p : Form × List ℕ). p.0) pair, ap (λ (p : Form × List ℕ). p.1) pair)

-- what an answer says

pub read_again : (bytes : List ℕ) (x : Form) (rest : List ℕ) → IsFirstForm bytes x rest → form_at bytes ≡ Ok (x, rest)
read_again bytes x rest s = ap form_at s.parts ∙ again x rest s.fits

pub read_takes : (bytes : List ℕ) (x : Form) (rest : List ℕ) → IsBytes bytes → form_at bytes ≡ Ok (x, rest) → Takes bytes x rest
read_takes bytes x rest fits e = takes (Byte first) [] bytes x rest spells_all fits e

pub read_stands : (bytes : List ℕ) (x : Form) (rest : List ℕ) → IsBytes bytes → form_at bytes ≡ Ok (x, rest) → IsFirstForm bytes x rest
read_stands bytes x rest fits e =
    let t = read_takes bytes x rest fits e in
    record { parts = t.parts; fits = t.fits }

pub read_unknown : (bytes : List ℕ) → form_at bytes ≡ Err Unknown → HasNoForm bytes
read_unknown bytes e x more rest s =
    let a = unknown_stays (Byte first) bytes more e in
    let b = read_again (bytes ++ more) x rest s in
    absurd cc

pub read_truncated : (bytes : List ℕ) → IsBytes bytes → form_at bytes ≡ Err Truncated → IsCut bytes
read_truncated bytes fits e =
    let g = truncated_goes_on (Byte first) bytes always_ends e in
    record { x = g.x; more = g.more; longer = g.longer; whole = read_stands (bytes ++ g.more) g.x [] (IsBytes-append bytes g.more fits g.fits) g.reads }

-- what the bytes say of the answer

cut_stands : (bytes : List ℕ) (y : Form) (rest : List ℕ) → IsCut bytes → IsFirstForm bytes y rest → ⊥
cut_stands bytes y rest c s =
    let joined : bytes_of c.x ++ [] ≡ bytes_of y ++ (rest ++ c.more) = sym c.whole.parts ∙ ap (λ (b : List ℕ). b ++ c.more) s.parts ∙ append_assoc (bytes_of y) rest c.more in
    let same = one_form c.x y [] (rest ++ c.more) c.whole.fits s.fits joined in
    let none : length (rest ++ c.more) ≡ 0 = sym (ap length same.1) in
    c.longer (nil_from_length c.more (omega (arith, none, length-append rest c.more)))

unknown_stands : (bytes : List ℕ) (y : Form) (rest : List ℕ) → HasNoForm bytes → IsFirstForm bytes y rest → ⊥
unknown_stands bytes y rest h s = h y [] rest (record { parts = append-nil bytes ∙ s.parts; fits = s.fits })

cut_answer : (bytes : List ℕ) (r : Result (Form × List ℕ) Miss) → IsBytes bytes → IsCut bytes → form_at bytes ≡ r → r ≡ Err Truncated
cut_answer bytes (Ok x) fits c e = absurd (cut_stands bytes x.0 x.1 c (read_stands bytes x.0 x.1 fits e))
cut_answer bytes (Err Unknown) fits c e = absurd (read_unknown bytes e c.x c.more [] c.whole)
cut_answer bytes (Err Truncated) fits c e = refl

pub cut_read : (bytes : List ℕ) → IsBytes bytes → IsCut bytes → form_at bytes ≡ Err Truncated
cut_read bytes fits c = cut_answer bytes (form_at bytes) fits c refl

unknown_answer : (bytes : List ℕ) (r : Result (Form × List ℕ) Miss) → IsBytes bytes → HasNoForm bytes → form_at bytes ≡ r → r ≡ Err Unknown
unknown_answer bytes (Ok x) fits h e = absurd (unknown_stands bytes x.0 x.1 h (read_stands bytes x.0 x.1 fits e))
unknown_answer bytes (Err Unknown) fits h e = refl
unknown_answer bytes (Err Truncated) fits h e =
    let c = read_truncated bytes fits e in
    absurd (h c.x c.more [] c.whole)

pub unknown_read : (bytes : List ℕ) → IsBytes bytes → HasNoForm bytes → form_at bytes ≡ Err Unknown
unknown_read bytes fits h = unknown_answer bytes (form_at bytes) fits h refl

pub nothing_has_forms : (bytes : List ℕ) → HasNoForm bytes → bytes ≡ [] → ⊥
unfolding bytes_of
nothing_has_forms bytes h e = h Nop (0x90 ∷ []) [] (record { parts = ap (λ (b : List ℕ). b ++ 0x90 ∷ []) e; fits = tt })
