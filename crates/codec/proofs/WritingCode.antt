-- The code, instruction after instruction.
use Rattle.std.proofs.Common.{◌≡◌, ℕ, zero, suc, ◌+◌, ◌<◌, pos, ◌-ℤ◌, Bool, true, List, [], ◌∷◌, ◌++◌, length, get_or, take, Option, Some, None, refl, sym, ap, subst, ◌∙◌, arith, add-one}
use Rattle.std.specs.Prelude.{IfSome, nat_le}
use Rattle.std.specs.List.{flat_map, list_all, AllByRecursion}
use Rattle.std.specs.Option.{option_map_or}
use Rattle.std.proofs.lemmas.Bool.{leb-true}
use Rattle.std.proofs.lemmas.List.{length-take, append-nil}
use Rattle.std.proofs.lemmas.List.Concat.{flat_map-append}
use Rattle.std.proofs.Math.Seq.{take-suc, take-length}
use Rattle.isa.specs.declared.instr.Instr.{Instr}
use Rattle.isa.specs.Operands.{target_of}
use Rattle.isa.specs.Programs.{is_program, leads_within, max_instructions}
use Rattle.codec.specs.declared.form.Form.{Form}
use Rattle.codec.specs.Forms.{bytes_of, Fits}
use Rattle.codec.specs.Code.{form_of, start, forms_at, forms_of, code_of}
use Rattle.codec.specs.Tables.{AreStarts}
use Rattle.codec.proofs.MemoryOperands.{both}
use Rattle.codec.proofs.ProgramForms.{forms_at-push, form_of_same}

list_all_get : (test : Instr → Bool) (xs : List Instr) (n : ℕ) (d : Instr) → list_all test xs ≡ true → n < length xs → test (get_or xs n d) ≡ true
list_all_get test [] n d e lt = absurd (omega arith)
list_all_get test (x ∷ xs) zero d e lt = (both (test x) (list_all test xs) e).0
list_all_get test (x ∷ xs) (suc n) d e lt = list_all_get test xs n d (both (test x) (list_all test xs) e).1 (omega arith)

within : (n m : ℕ) (o : Option ℕ) → n < m → option_map_or (λ t. nat_le t n) o true ≡ true → IfSome o (λ t. t < m)
within n m None lt e = tt
within n m (Some t) lt e = omega (arith, leb-true t n e)

-- an instruction of a program leads to an offset that is there
pub target_within : (p : List Instr) (starts : List ℕ) (n : ℕ) (d i : Instr) → AreStarts p starts → is_program p ≡ true → n < length p → i ≡ get_or p n d → IfSome (target_of i) (λ t. t < length starts)
target_within p starts n d i s sound lt is =
    let all = (both (nat_le (length p) max_instructions) (list_all (leads_within (length p)) p) sound).1 in
    let lead : leads_within (length p) (get_or p n d) ≡ true = list_all_get (leads_within (length p)) p n d all lt in
    within (length p) (length starts) (target_of i) (omega (arith, s.len)) (ap (leads_within (length p)) is ∙ lead)

pub record Writes (p : List Instr) (n : ℕ) (out : List ℕ) : Type 0 where
  pub made : out ≡ flat_map bytes_of (forms_at (start p) 0 (take n p))
  pub fits : AllByRecursion Fits (forms_at (start p) 0 (take n p))

pub writes_none : (p : List Instr) → Writes p 0 []
writes_none p = record { made = refl; fits = tt }

all_fit-push : (xs : List Form) (x : Form) → AllByRecursion Fits xs → Fits x → AllByRecursion Fits (xs ++ x ∷ [])
all_fit-push [] x h f = (f, tt)
all_fit-push (y ∷ xs) x h f = (h.0, all_fit-push xs x h.1 f)

same_away : (p : List Instr) (starts : List ℕ) (n : ℕ) (o : Option ℕ) → AreStarts p starts → n < length p → IfSome o (λ t. t < length starts)
    → IfSome o (λ t. pos (get_or starts t 0) -ℤ pos (get_or starts (n + 1) 0) ≡ pos (start p t) -ℤ pos (start p (n + 1)))
same_away p starts n None s lt h = tt
same_away p starts n (Some t) s lt h =
    let there : get_or starts t 0 ≡ start p t = s.each t (omega (arith, s.len, h)) in
    let next : get_or starts (n + 1) 0 ≡ start p (n + 1) = s.each (n + 1) (omega arith) in
    cc

pub writes_next : (p : List Instr) (starts : List ℕ) (n : ℕ) (out : List ℕ) (d i : Instr) (x : Form) → AreStarts p starts → is_program p ≡ true → n < length p → i ≡ get_or p n d → Writes p n out
    → x ≡ form_of (λ t. pos (get_or starts t 0) -ℤ pos (get_or starts (n + 1) 0)) i → Fits x → Writes p (n + 1) (out ++ bytes_of x)
writes_next p starts n out d i x s sound lt is w made fits =
    let long : length (take n p) ≡ n = omega (arith, length-take n p) in
    let front : take (n + 1) p ≡ take n p ++ i ∷ [] = rw (add-one n) (take-suc p n d lt ∙ ap (λ (j : Instr). take n p ++ j ∷ []) (sym is)) in
    let same : x ≡ form_of (λ t. pos (start p t) -ℤ pos (start p (n + 1))) i =
    made ∙ form_of_same (λ t. pos (get_or starts t 0) -ℤ pos (get_or starts (n + 1) 0)) (λ t. pos (start p t) -ℤ pos (start p (n + 1))) i (same_away p starts n (target_of i) s lt (target_within p starts n d i s sound lt is)) in
    let forms : forms_at (start p) 0 (take (n + 1) p) ≡ forms_at (start p) 0 (take n p) ++ x ∷ [] =
    ap (forms_at (start p) 0) front ∙ forms_at-push (start p) 0 (take n p) i (n + 1) (omega (arith, long)) ∙ ap (λ (y : Form). forms_at (start p) 0 (take n p) ++ y ∷ []) (sym same) in
    record {
      made = ap (λ (o : List ℕ). o ++ bytes_of x) w.made ∙ sym (ap (flat_map bytes_of) forms ∙ flat_map-append bytes_of (forms_at (start p) 0 (take n p)) (x ∷ []) ∙ ap (λ (b : List ℕ). flat_map bytes_of (forms_at (start p) 0 (take n p)) ++ b) (append-nil (bytes_of x)));
      fits = subst (AllByRecursion Fits) (sym forms) (all_fit-push (forms_at (start p) 0 (take n p)) x w.fits fits);
    }

pub written : (p : List Instr) (n : ℕ) (out : List ℕ) → n ≡ length p → Writes p n out → out ≡ code_of p
unfolding code_of
written p n out e w =
    let all : take n p ≡ p = ap (λ (m : ℕ). take m p) e ∙ take-length p in
    w.made ∙ ap (λ (q : List Instr). flat_map bytes_of (forms_at (start p) 0 q)) all

pub written_fits : (p : List Instr) (n : ℕ) (out : List ℕ) → n ≡ length p → Writes p n out → AllByRecursion Fits (forms_of p)
written_fits p n out e w =
    let all : take n p ≡ p = ap (λ (m : ℕ). take m p) e ∙ take-length p in
    subst (λ (q : List Instr). AllByRecursion Fits (forms_at (start p) 0 q)) all w.fits
