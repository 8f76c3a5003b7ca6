-- The forms of a program, and where they begin.
use Rattle.std.proofs.Common.{◌≡◌, ℕ, zero, suc, ◌+◌, ℤ, pos, ◌-ℤ◌, List, [], ◌∷◌, ◌++◌, length, take, Option, Some, None, refl, sym, ap, ◌∙◌, arith}
use Rattle.std.specs.Prelude.{IfSome}
use Rattle.std.proofs.lemmas.List.Sums.{sum_by-cons}
use Rattle.isa.specs.declared.instr.Instr.{Instr}
use Rattle.isa.specs.declared.instr.Instr.TheVariants as instrs
use Rattle.isa.specs.declared.instr.JumpKind.TheVariants.{Always, IfZero, IfNotZero}
use Rattle.isa.specs.Operands.{target_of}
use Rattle.codec.specs.declared.form.Form.{Form}
use Rattle.codec.specs.declared.form.Form.TheVariants.{Jump}
use Rattle.codec.specs.Forms.{memory, immediate, distance, bytes_of}
use Rattle.codec.specs.Code.{form_of, size, start, forms_at, forms_of}
use Rattle.codec.specs.Faults.{offset}
use Rattle.codec.proofs.FormSizes.{form_size}

-- an instruction takes as many bytes whatever its distance is
pub size_any : (away : ℕ → ℤ) (i : Instr) → form_size (form_of away i) ≡ size i
unfolding bytes_of form_of memory immediate distance
size_any away (instrs.Set r source) = refl
size_any away (instrs.Compute operation r n) = refl
size_any away (instrs.Jump Always t) = refl
size_any away (instrs.Jump IfZero t) = refl
size_any away (instrs.Jump IfNotZero t) = refl
size_any away instrs.Nop = refl
size_any away (instrs.Memory access m) = refl
size_any away (instrs.Fence kind) = refl

pub form_of_same : (away other : ℕ → ℤ) (i : Instr) → IfSome (target_of i) (λ t. away t ≡ other t) → form_of away i ≡ form_of other i
unfolding form_of
form_of_same away other (instrs.Jump kind t) h = ap (Jump kind) h
form_of_same away other _ h = refl

-- what holds of each number holds of one that may be there
pub if_some_all : (o : Option ℕ) (P : ℕ → Type 0) → ((t : ℕ) → P t) → IfSome o P
if_some_all None P h = tt
if_some_all (Some t) P h = h t

pub length-forms_at : (at : ℕ → ℕ) (k : ℕ) (program : List Instr) → length (forms_at at k program) ≡ length program
length-forms_at at k [] = refl
length-forms_at at k (i ∷ program) = ap suc (length-forms_at at (suc k) program)

-- an instruction begins where its form does
pub start_is_offset : (at : ℕ → ℕ) (k : ℕ) (program : List Instr) (t : ℕ) → start program t ≡ offset (forms_at at k program) t
start_is_offset at k [] zero = refl
start_is_offset at k [] (suc t) = refl
start_is_offset at k (i ∷ program) zero = refl
start_is_offset at k (i ∷ program) (suc t) =
    let away : ℕ → ℤ = λ t. pos (at t) -ℤ pos (at (suc k)) in
    sum_by-cons size i (take t program) ∙ rw (← size_any away i, start_is_offset at (suc k) program t) (sym (sum_by-cons form_size (form_of away i) (take t (forms_at at (suc k) program))))

pub forms_at_same : (at other : ℕ → ℕ) (k : ℕ) (program : List Instr) → ((t : ℕ) → at t ≡ other t) → forms_at at k program ≡ forms_at other k program
forms_at_same at other k [] same = refl
forms_at_same at other k (i ∷ program) same =
    let head : form_of (λ t. pos (at t) -ℤ pos (at (suc k))) i ≡ form_of (λ t. pos (other t) -ℤ pos (other (suc k))) i =
    form_of_same _ _ i (if_some_all (target_of i) (λ t. pos (at t) -ℤ pos (at (suc k)) ≡ pos (other t) -ℤ pos (other (suc k))) (λ t. (let here : at t ≡ other t = same t in let next : at (suc k) ≡ other (suc k) = same (suc k) in cc))) in
    let tail : forms_at at (suc k) program ≡ forms_at other (suc k) program = forms_at_same at other (suc k) program same in
    cc

-- forms that were laid out by their own offsets are those of the program
pub forms_are_laid : (xs : List Form) (program : List Instr) → forms_at (offset xs) 0 program ≡ xs → forms_of program ≡ xs
forms_are_laid xs program e =
    forms_at_same (start program) (offset xs) 0 program (λ t. start_is_offset (offset xs) 0 program t ∙ ap (λ (ys : List Form). offset ys t) e) ∙ e

pub forms_of_laid : (program : List Instr) → forms_at (offset (forms_of program)) 0 program ≡ forms_of program
forms_of_laid program = forms_at_same (offset (forms_of program)) (start program) 0 program (λ t. sym (start_is_offset (start program) 0 program t))

pub forms_at-push : (at : ℕ → ℕ) (k : ℕ) (program : List Instr) (i : Instr) (next : ℕ) → next ≡ k + length program + 1
    → forms_at at k (program ++ i ∷ []) ≡ forms_at at k program ++ form_of (λ t. pos (at t) -ℤ pos (at next)) i ∷ []
forms_at-push at k [] i next e = let same : suc k ≡ next = omega arith in ap (λ (m : ℕ). form_of (λ t. pos (at t) -ℤ pos (at m)) i ∷ []) same
forms_at-push at k (j ∷ program) i next e =
    let same : next ≡ suc k + length program + 1 = omega arith in
    ap (λ (xs : List Form). form_of (λ t. pos (at t) -ℤ pos (at (suc k))) j ∷ xs) (forms_at-push at (suc k) program i next same)
