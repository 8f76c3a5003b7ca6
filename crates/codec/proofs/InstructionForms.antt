-- Instructions and their forms.
use Rattle.std.proofs.Common.{◌≡◌, ℕ, suc, ◌≤◌, ℤ, pos, ◌+ℤ◌, ◌-ℤ◌, true, List, length, Option, Some, None, refl, ap, subst, ◌∙◌, arith}
use Rattle.std.specs.Prelude.{option_map}
use Rattle.std.proofs.lemmas.Bool.{leb-true, le-leb}
use Rattle.std.proofs.lemmas.Int.{ints}
use Rattle.isa.specs.declared.instr.Access.{Access}
use Rattle.isa.specs.declared.instr.Instr.{Instr}
use Rattle.isa.specs.declared.instr.Instr.TheVariants as instrs
use Rattle.isa.specs.declared.instr.JumpKind.{JumpKind}
use Rattle.isa.specs.declared.instr.MemoryOperand.{MemoryOperand}
use Rattle.isa.specs.Programs.{leads_within}
use Rattle.isa.specs.Loadables.{names_its_words}
use Rattle.codec.specs.declared.form.Address.{Address}
use Rattle.codec.specs.declared.form.Form.{Form}
use Rattle.codec.specs.declared.form.Form.TheVariants.{Set, Compute, Jump, Nop, Memory, Fence}
use Rattle.codec.specs.Code.{form_of}
use Rattle.codec.specs.Faults.{offset, IsAddress, NamesWord, JumpsToAForm}
use Rattle.codec.specs.Programs.{operand_at, target_at, target_of, instr_of}
use Rattle.codec.proofs.MemoryOperands.{operand_found, operand_again, operand_of_word}
use Rattle.codec.proofs.Targets.{target_found, target_none, target_again}

-- how far instruction t begins behind form k
abbrev pub away_from : List Form → ℕ → ℕ → ℤ
away_from xs k t = pos (offset xs t) -ℤ pos (offset xs (suc k))

there_and_back : (a b : ℕ) → pos b +ℤ (pos a -ℤ pos b) ≡ pos a
there_and_back a b = omega (arith, ints)

distance_is : (a b : ℕ) (d : ℤ) → pos a ≡ pos b +ℤ d → pos a -ℤ pos b ≡ d
distance_is a b d e = omega (arith, ints)

-- from an instruction to its form, and back

jump_again : (xs : List Form) (k t : ℕ) → t ≤ length xs → target_of xs k (away_from xs k t) ≡ Some t
jump_again xs k t le = ap (target_at xs) (there_and_back (offset xs t) (offset xs (suc k))) ∙ target_again xs t le

pub instr_again : (shape : List ℕ) (xs : List Form) (k : ℕ) (i : Instr) → names_its_words shape i ≡ true → leads_within (length xs) i ≡ true
    → instr_of shape xs k (form_of (away_from xs k) i) ≡ Some i
unfolding instr_of form_of
instr_again shape xs k (instrs.Jump kind t) word lead = ap (option_map (λ u. instrs.Jump kind u)) (jump_again xs k t (leb-true t (length xs) lead))
instr_again shape xs k (instrs.Memory access m) word lead = ap (option_map (λ operand. instrs.Memory access operand)) (operand_again shape m word)
instr_again shape xs k _ word lead = refl

-- from a form to its instruction

pub record Made (shape : List ℕ) (xs : List Form) (k : ℕ) (x : Form) (i : Instr) : Type 0 where
  pub form : form_of (away_from xs k) i ≡ x
  pub word : names_its_words shape i ≡ true
  pub lead : leads_within (length xs) i ≡ true

plain_made : (shape : List ℕ) (xs : List Form) (k : ℕ) (x : Form) (i j : Instr) → Some i ≡ Some j → Made shape xs k x i → Made shape xs k x j
plain_made shape xs k x i j e m =
    let same : i ≡ j = cc in
    subst (Made shape xs k x) same m

memory_made : (shape : List ℕ) (xs : List Form) (k : ℕ) (access : Access) (m : Address) (o : Option MemoryOperand) (i : Instr)
    → operand_at shape m ≡ o → option_map (λ operand. instrs.Memory access operand) o ≡ Some i → Made shape xs k (Memory access m) i
unfolding form_of
memory_made shape xs k access m None i e f = absurd cc
memory_made shape xs k access m (Some operand) i e f =
    let found = operand_found shape m operand e in
    plain_made shape xs k (Memory access m) (instrs.Memory access operand) i f (record { form = ap (Memory access) found.0; word = found.1; lead = refl })

jump_made : (shape : List ℕ) (xs : List Form) (k : ℕ) (kind : JumpKind) (d : ℤ) (o : Option ℕ) (i : Instr)
    → target_of xs k d ≡ o → option_map (λ t. instrs.Jump kind t) o ≡ Some i → Made shape xs k (Jump kind d) i
unfolding form_of
jump_made shape xs k kind d None i e f = absurd cc
jump_made shape xs k kind d (Some t) i e f =
    let found = target_found xs (pos (offset xs (suc k)) +ℤ d) t e in
    let far : away_from xs k t ≡ d = distance_is (offset xs t) (offset xs (suc k)) d found.1 in
    plain_made shape xs k (Jump kind d) (instrs.Jump kind t) i f (record { form = ap (Jump kind) far; word = refl; lead = le-leb t (length xs) found.0 })

pub instr_made : (shape : List ℕ) (xs : List Form) (k : ℕ) (x : Form) (i : Instr) → instr_of shape xs k x ≡ Some i → Made shape xs k x i
unfolding instr_of form_of
instr_made shape xs k (Set r source) i e = plain_made shape xs k (Set r source) (instrs.Set r source) i e (record { form = refl; word = refl; lead = refl })
instr_made shape xs k (Compute operation r n) i e = plain_made shape xs k (Compute operation r n) (instrs.Compute operation r n) i e (record { form = refl; word = refl; lead = refl })
instr_made shape xs k (Jump kind d) i e = jump_made shape xs k kind d _ i refl e
instr_made shape xs k Nop i e = plain_made shape xs k Nop instrs.Nop i e (record { form = refl; word = refl; lead = refl })
instr_made shape xs k (Memory access m) i e = memory_made shape xs k access m _ i refl e
instr_made shape xs k (Fence kind) i e = plain_made shape xs k (Fence kind) (instrs.Fence kind) i e (record { form = refl; word = refl; lead = refl })

-- where a form leads

jump_leads : (xs : List Form) (k : ℕ) (kind : JumpKind) (d : ℤ) (o : Option ℕ) (i : Instr) → target_of xs k d ≡ o → option_map (λ t. instrs.Jump kind t) o ≡ Some i → JumpsToAForm xs k (Jump kind d)
jump_leads xs k kind d None i e f = absurd cc
jump_leads xs k kind d (Some t) i e f = (let found = target_found xs (pos (offset xs (suc k)) +ℤ d) t e in (t, found.0, found.1))

pub instr_leads : (shape : List ℕ) (xs : List Form) (k : ℕ) (x : Form) (i : Instr) → instr_of shape xs k x ≡ Some i → JumpsToAForm xs k x
unfolding instr_of
instr_leads shape xs k (Jump kind d) i e = jump_leads xs k kind d _ i refl e
instr_leads shape xs k _ i e = tt

memory_there : (shape : List ℕ) (m : Address) (make : MemoryOperand → Instr) → IsAddress shape m → option_map make (operand_at shape m) ≡ None → ⊥
memory_there shape m make w e =
    let there = operand_of_word shape m w in
    let some : option_map make (operand_at shape m) ≡ Some (make there.0) = ap (option_map make) there.1 in
    absurd cc

jump_there : (xs : List Form) (k : ℕ) (kind : JumpKind) (d : ℤ) (o : Option ℕ) → JumpsToAForm xs k (Jump kind d) → target_of xs k d ≡ o → option_map (λ t. instrs.Jump kind t) o ≡ None → ⊥
jump_there xs k kind d None l e f = target_none xs (pos (offset xs (suc k)) +ℤ d) l.0 e l.1 l.2
jump_there xs k kind d (Some t) l e f = absurd cc

pub instr_there : (shape : List ℕ) (xs : List Form) (k : ℕ) (x : Form) → NamesWord shape x → JumpsToAForm xs k x → instr_of shape xs k x ≡ None → ⊥
unfolding instr_of
instr_there shape xs k (Jump kind d) w l e = jump_there xs k kind d _ l refl e
instr_there shape xs k (Memory access m) w l e = memory_there shape m (λ operand. instrs.Memory access operand) w e
instr_there shape xs k _ w l e = absurd cc
