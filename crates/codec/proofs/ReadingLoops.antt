-- The two loops of reading: forms one after another, and instructions one after another.
use Rattle.std.proofs.Common.{◌≡◌, ◌≢◌, ℕ, suc, ◌+◌, ◌-◌, ◌<◌, ◌≤◌, List, [], ◌∷◌, ◌++◌, length, get_or, drop, Option, Some, None, Result, Ok, Err, refl, sym, ap, ◌∙◌, append_assoc, arith, add-one}
use Rattle.std.proofs.lemmas.List.{length-append, append-nil}
use Rattle.std.proofs.Math.Seq.{drop-cons}
use Rattle.outcomes.specs.Outcomes.{◌>>=◌, required}
use Rattle.isa.specs.declared.instr.Instr.{Instr}
use Rattle.isa.specs.Programs.{max_instructions}
use Rattle.codec.specs.declared.fault.CodeFault.{CodeFault}
use Rattle.codec.specs.declared.fault.CodeFault.TheVariants.{BadTarget, TooLong}
use Rattle.codec.specs.declared.form.Form.{Form}
use Rattle.codec.specs.Forms.{bytes_of}
use Rattle.codec.specs.Faults.{offset}
use Rattle.codec.specs.Programs.{good_form_at, forms_from, instr_of, instrs_from}
use Rattle.codec.proofs.Numbers.{IsBytes}
use Rattle.codec.proofs.FormSizes.{sizes}
use Rattle.codec.proofs.FormLists.{FormAndRest, forms_step, forms_full, forms_end, takes_form}

-- forms

-- these forms were read, and rest is left
pub record FormsRead (shape bytes : List ℕ) (forms : List Form) (rest : List ℕ) : Type 0 where
  pub told : forms_from shape max_instructions 0 bytes ≡ (forms_from shape (max_instructions - length forms) (length bytes - length rest) rest >>= λ xs. Ok (forms ++ xs))
  pub few : length forms ≤ max_instructions
  pub within : length rest ≤ length bytes
  pub fits : IsBytes rest

bind_same : {A : Type 0} (r : Result A CodeFault) → (r >>= λ a. Ok a) ≡ r
bind_same (Ok a) = refl
bind_same (Err fault) = refl

pub forms_read_none : (shape bytes : List ℕ) → IsBytes bytes → FormsRead shape bytes [] bytes
forms_read_none shape bytes fits =
    let here : length bytes - length bytes ≡ 0 = omega arith in
    record { told = ap (λ (n : ℕ). forms_from shape max_instructions n bytes) (sym here) ∙ sym (bind_same (forms_from shape max_instructions (length bytes - length bytes) bytes)); few = omega arith; within = omega arith; fits = fits }

bind_more : (r : Result (List Form) CodeFault) (forms : List Form) (x : Form) → ((r >>= λ xs. Ok (x ∷ xs)) >>= λ xs. Ok (forms ++ xs)) ≡ (r >>= λ xs. Ok ((forms ++ x ∷ []) ++ xs))
bind_more (Ok xs) forms x = ap (λ (ys : List Form). Ok ys) (sym (append_assoc forms (x ∷ []) xs))
bind_more (Err fault) forms x = refl

pub forms_read_more : (shape bytes : List ℕ) (forms : List Form) (rest : List ℕ) (x : FormAndRest) → FormsRead shape bytes forms rest → length forms < max_instructions → rest ≢ []
    → good_form_at shape (length bytes - length rest) rest ≡ Ok x → FormsRead shape bytes (forms ++ x.0 ∷ []) x.1
forms_read_more shape bytes forms rest x r room some e =
    let here : ℕ = length bytes - length rest in
    let left : ℕ = max_instructions - suc (length forms) in
    let t = takes_form shape here rest x r.fits e in
    let long : length rest ≡ length (bytes_of x.0) + length x.1 = ap length t.stands.parts ∙ length-append (bytes_of x.0) x.1 in
    let more : max_instructions - length forms ≡ suc left = omega arith in
    let fewer : left ≡ max_instructions - length (forms ++ x.0 ∷ []) = omega (arith, length-append forms (x.0 ∷ [])) in
    let next : here + length (bytes_of x.0) ≡ length bytes - length x.1 = omega (arith, long, r.within) in
    record {
      told =
          r.told
          ∙ ap (λ (q : Result (List Form) CodeFault). q >>= λ xs. Ok (forms ++ xs))
          (ap (λ (n : ℕ). forms_from shape n here rest) more ∙ forms_step shape left here rest some
          ∙ ap (λ (q : Result FormAndRest CodeFault). q >>= λ y. forms_from shape left (here + length (bytes_of y.0)) y.1 >>= λ xs. Ok (y.0 ∷ xs)) e)
          ∙ bind_more (forms_from shape left (here + length (bytes_of x.0)) x.1) forms x.0
          ∙ ap (λ (n : ℕ). forms_from shape n (here + length (bytes_of x.0)) x.1 >>= λ xs. Ok ((forms ++ x.0 ∷ []) ++ xs)) fewer
          ∙ ap (λ (n : ℕ). forms_from shape (max_instructions - length (forms ++ x.0 ∷ [])) n x.1 >>= λ xs. Ok ((forms ++ x.0 ∷ []) ++ xs)) next;
      few = omega (arith, length-append forms (x.0 ∷ []));
      within = omega (arith, long, r.within);
      fits = t.fits;
    }

pub forms_read_shorter : (shape : List ℕ) (at : ℕ) (rest : List ℕ) (x : FormAndRest) → IsBytes rest → good_form_at shape at rest ≡ Ok x → length x.1 < length rest
forms_read_shorter shape at rest x fits e =
    let t = takes_form shape at rest x fits e in
    omega (arith, (sizes x.0).some, ap length t.stands.parts, length-append (bytes_of x.0) x.1)

pub forms_read_fault : (shape bytes : List ℕ) (forms : List Form) (rest : List ℕ) (fault : CodeFault) → FormsRead shape bytes forms rest → length forms < max_instructions → rest ≢ []
    → good_form_at shape (length bytes - length rest) rest ≡ Err fault → forms_from shape max_instructions 0 bytes ≡ Err fault
forms_read_fault shape bytes forms rest fault r room some e =
    let here : ℕ = length bytes - length rest in
    let left : ℕ = max_instructions - suc (length forms) in
    let more : max_instructions - length forms ≡ suc left = omega arith in
    r.told
    ∙ ap (λ (q : Result (List Form) CodeFault). q >>= λ xs. Ok (forms ++ xs))
    (ap (λ (n : ℕ). forms_from shape n here rest) more ∙ forms_step shape left here rest some
    ∙ ap (λ (q : Result FormAndRest CodeFault). q >>= λ y. forms_from shape left (here + length (bytes_of y.0)) y.1 >>= λ xs. Ok (y.0 ∷ xs)) e)

pub forms_read_full : (shape bytes : List ℕ) (forms : List Form) (rest : List ℕ) → FormsRead shape bytes forms rest → length forms ≡ max_instructions → rest ≢ [] → forms_from shape max_instructions 0 bytes ≡ Err TooLong
forms_read_full shape bytes forms rest r full some =
    let here : ℕ = length bytes - length rest in
    let none : max_instructions - length forms ≡ 0 = omega arith in
    r.told ∙ ap (λ (q : Result (List Form) CodeFault). q >>= λ xs. Ok (forms ++ xs)) (ap (λ (n : ℕ). forms_from shape n here rest) none ∙ forms_full shape here rest some)

pub forms_read_all : (shape bytes : List ℕ) (forms : List Form) (rest : List ℕ) → FormsRead shape bytes forms rest → rest ≡ [] → forms_from shape max_instructions 0 bytes ≡ Ok forms
forms_read_all shape bytes forms rest r none =
    let room : ℕ = max_instructions - length forms in
    let here : ℕ = length bytes - length rest in
    r.told ∙ ap (λ (q : Result (List Form) CodeFault). q >>= λ xs. Ok (forms ++ xs)) (ap (forms_from shape room here) none ∙ forms_end shape room here) ∙ ap (λ (ys : List Form). Ok ys) (append-nil forms)

-- instructions

-- the instructions of the first k forms were read
pub record InstrsRead (shape : List ℕ) (xs : List Form) (k : ℕ) (code : List Instr) : Type 0 where
  pub told : instrs_from shape xs 0 xs ≡ (instrs_from shape xs k (drop k xs) >>= λ others. Ok (code ++ others))

pub instrs_read_none : (shape : List ℕ) (xs : List Form) → InstrsRead shape xs 0 []
instrs_read_none shape xs = record { told = sym (bind_same (instrs_from shape xs 0 xs)) }

instrs_step : (shape : List ℕ) (xs : List Form) (k : ℕ) (x : Form) (rest : List Form)
    → instrs_from shape xs k (x ∷ rest) ≡ (required (BadTarget (offset xs k)) (instr_of shape xs k x) >>= λ instr. instrs_from shape xs (suc k) rest >>= λ others. Ok (instr ∷ others))
unfolding instrs_from
instrs_step shape xs k x rest = refl

bind_instrs : (r : Result (List Instr) CodeFault) (code : List Instr) (i : Instr) → ((r >>= λ others. Ok (i ∷ others)) >>= λ others. Ok (code ++ others)) ≡ (r >>= λ others. Ok ((code ++ i ∷ []) ++ others))
bind_instrs (Ok others) code i = ap (λ (is : List Instr). Ok is) (sym (append_assoc code (i ∷ []) others))
bind_instrs (Err fault) code i = refl

-- form k is next
next_form : (xs : List Form) (k : ℕ) (d x : Form) → k < length xs → x ≡ get_or xs k d → drop k xs ≡ x ∷ drop (suc k) xs
next_form xs k d x lt is = drop-cons xs k d lt ∙ ap (λ (y : Form). y ∷ drop (suc k) xs) (sym is)

instrs_told : (shape : List ℕ) (xs : List Form) (k : ℕ) (code : List Instr) (d x : Form) (o : Option Instr) → InstrsRead shape xs k code → k < length xs → x ≡ get_or xs k d → instr_of shape xs k x ≡ o
    → instrs_from shape xs 0 xs ≡ ((required (BadTarget (offset xs k)) o >>= λ instr. instrs_from shape xs (suc k) (drop (suc k) xs) >>= λ others. Ok (instr ∷ others)) >>= λ others. Ok (code ++ others))
instrs_told shape xs k code d x o r lt is e =
    r.told
    ∙ ap (λ (q : Result (List Instr) CodeFault). q >>= λ others. Ok (code ++ others))
    (ap (instrs_from shape xs k) (next_form xs k d x lt is) ∙ instrs_step shape xs k x (drop (suc k) xs)
    ∙ ap (λ (p : Option Instr). required (BadTarget (offset xs k)) p >>= λ instr. instrs_from shape xs (suc k) (drop (suc k) xs) >>= λ others. Ok (instr ∷ others)) e)

pub instrs_read_more : (shape : List ℕ) (xs : List Form) (k : ℕ) (code : List Instr) (d x : Form) (i : Instr) → InstrsRead shape xs k code → k < length xs → x ≡ get_or xs k d → instr_of shape xs k x ≡ Some i
    → InstrsRead shape xs (k + 1) (code ++ i ∷ [])
instrs_read_more shape xs k code d x i r lt is e =
    rw (add-one k) (record { told = instrs_told shape xs k code d x (Some i) r lt is e ∙ bind_instrs (instrs_from shape xs (suc k) (drop (suc k) xs)) code i })

pub instrs_read_fault : (shape : List ℕ) (xs : List Form) (k : ℕ) (code : List Instr) (d x : Form) → InstrsRead shape xs k code → k < length xs → x ≡ get_or xs k d → instr_of shape xs k x ≡ None
    → instrs_from shape xs 0 xs ≡ Err (BadTarget (offset xs k))
instrs_read_fault shape xs k code d x r lt is e = instrs_told shape xs k code d x None r lt is e

instrs_end : (shape : List ℕ) (xs : List Form) (k : ℕ) → instrs_from shape xs k [] ≡ Ok []
unfolding instrs_from
instrs_end shape xs k = refl

pub instrs_read_all : (shape : List ℕ) (xs : List Form) (k : ℕ) (code : List Instr) → InstrsRead shape xs k code → drop k xs ≡ [] → instrs_from shape xs 0 xs ≡ Ok code
instrs_read_all shape xs k code r none =
    r.told ∙ ap (λ (q : Result (List Instr) CodeFault). q >>= λ others. Ok (code ++ others)) (ap (instrs_from shape xs k) none ∙ instrs_end shape xs k) ∙ ap (λ (is : List Instr). Ok is) (append-nil code)
