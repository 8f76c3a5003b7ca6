-- What is behind an access is still behind it, once a fence or a flush is put in, at a place no later than its own.
use Rattle.std.proofs.Common.{◌≡◌, ℕ, zero, suc, ◌+◌, ◌<◌, ◌≤◌, ◌⊎◌, true, true≢false, Some, List, length, map, option_map, sym, ap, ◌∙◌, arith, inl, inr}
use Rattle.std.specs.Prelude.{slice_get}
use Rattle.std.specs.List.{insert}
use Rattle.std.proofs.lemmas.Bool.{cases_lt}
use Rattle.std.proofs.lemmas.List.{length-map}
use Rattle.std.proofs.lemmas.Option.{slice_get-map}
use Rattle.isa.specs.declared.instr.Access.{Access}
use Rattle.isa.specs.declared.instr.Instr.{Instr}
use Rattle.isa.specs.declared.instr.Instr.TheVariants as instrs
use Rattle.isa.specs.declared.instr.JumpKind.{JumpKind}
use Rattle.isa.specs.declared.instr.MemoryOperand.{MemoryOperand}
use Rattle.image_reasons.specs.Repairs.{led_on, shifted}
use Rattle.candidates.specs.Candidates.{operand_kept}
use Rattle.added_fences.specs.Added.{IsBehindAccess, is_flush_or_fence}
use Rattle.added_fences.proofs.Inserted.{insert_before, insert_behind, insert_there, one_there, shifted_kept, shifted_past, was_some}

-- a jump that leads on was a jump
record WasJump (site : ℕ) (kind : JumpKind) (target : ℕ) (old : Instr) : Type 0 where
  old_target : ℕ
  is : old ≡ instrs.Jump kind old_target
  leads : target ≡ shifted site old_target

was_jump : (site : ℕ) (kind : JumpKind) (target : ℕ) (old : Instr) → led_on site old ≡ instrs.Jump kind target → WasJump site kind target old
was_jump site kind target (instrs.Jump before to) e =
    let same : before ≡ kind = cc in
    let leads : shifted site to ≡ target = cc in
    record { old_target = to; is = ap (λ (k : JumpKind). instrs.Jump k to) same; leads = sym leads }
was_jump site kind target (instrs.Set r source) e = absurd (cc)
was_jump site kind target (instrs.Compute operation r count) e = absurd (cc)
was_jump site kind target instrs.Nop e = absurd (cc)
was_jump site kind target (instrs.Memory access operand) e = absurd (cc)
was_jump site kind target (instrs.Fence fence) e = absurd (cc)

no_such_jump : (x : Instr) (kind : JumpKind) (target : ℕ) → is_flush_or_fence x ≡ true → instrs.Jump kind target ≡ x → ⊥
no_such_jump x kind target orders is = true≢false (sym orders ∙ sym (ap is_flush_or_fence is))

pub orders_on : (site : ℕ) (old : Instr) → is_flush_or_fence old ≡ true → is_flush_or_fence (led_on site old) ≡ true
orders_on site (instrs.Jump kind target) orders = absurd (true≢false (sym orders))
orders_on site (instrs.Set r source) orders = orders
orders_on site (instrs.Compute operation r count) orders = orders
orders_on site instrs.Nop orders = orders
orders_on site (instrs.Memory access operand) orders = orders
orders_on site (instrs.Fence fence) orders = orders

-- a fence or a flush, behind the instruction at a site
module _ (site n : ℕ) (x : Instr) (code : List Instr) (directly : n ≡ site + 1) (orders : is_flush_or_fence x ≡ true) (within : n ≤ length code) where
  abbrev moved : List Instr
  moved = map (led_on site) code

  abbrev new : List Instr
  new = insert moved n x

  inside : n ≤ length moved
  inside = let same = length-map code (led_on site) in omega (arith, same, within)

  -- ---- where an instruction is then

  new_before : (i : ℕ) → i < n → slice_get new i ≡ option_map (led_on site) (slice_get code i)
  new_before i below = insert_before moved n i x inside below ∙ slice_get-map (led_on site) code i

  new_behind : (i : ℕ) → n ≤ i → slice_get new (suc i) ≡ option_map (led_on site) (slice_get code i)
  new_behind i from = insert_behind moved n i x from ∙ slice_get-map (led_on site) code i

  -- ---- jumps

  -- a jump was one, to the place that leads to its own
  record OldJump (kind : JumpKind) (target : ℕ) : Type 0 where
    place : ℕ
    old_target : ℕ
    there : slice_get code place ≡ Some (instrs.Jump kind old_target)
    leads : target ≡ shifted site old_target

  old_jump_at : (place : ℕ) (kind : JumpKind) (target : ℕ) → option_map (led_on site) (slice_get code place) ≡ Some (instrs.Jump kind target) → OldJump kind target
  old_jump_at place kind target at =
      let old = was_some (led_on site) (slice_get code place) (instrs.Jump kind target) at in
      let jump = was_jump site kind target old.0 old.2 in
      record { place = place; old_target = jump.old_target; there = old.1 ∙ ap (λ (y : Instr). Some y) jump.is; leads = jump.leads }

  old_jump_by : (j target : ℕ) (kind : JumpKind) → slice_get new j ≡ Some (instrs.Jump kind target) → (j < n) ⊎ (n ≤ j) → (n < j) ⊎ (j ≤ n) → OldJump kind target
  old_jump_by j target kind at (inl below) above = old_jump_at j kind target (sym (new_before j below) ∙ at)
  old_jump_by zero target kind at (inr from) (inl past) = absurd (omega (arith, past))
  old_jump_by (suc j) target kind at (inr from) (inl past) = old_jump_at j kind target (sym (new_behind j (omega (arith, past))) ∙ at)
  old_jump_by j target kind at (inr from) (inr to) =
      let is : j ≡ n = omega (arith, from, to) in
      absurd (no_such_jump x kind target orders (one_there x (instrs.Jump kind target) (sym (insert_there moved n x inside) ∙ (ap (slice_get new) (sym is) ∙ at))))

  old_jump : (j target : ℕ) (kind : JumpKind) → slice_get new j ≡ Some (instrs.Jump kind target) → OldJump kind target
  old_jump j target kind at = old_jump_by j target kind at (cases_lt j n) (cases_lt n j)

  -- ---- it is itself behind the access at its site

  pub directly_behind : (access : Access) (operand : MemoryOperand) → slice_get code site ≡ Some (instrs.Memory access operand) → operand_kept access operand ≡ true → IsBehindAccess new operand n
  directly_behind access operand at keeps = record {
    site = site;
    access = access;
    there = new_before site (omega (arith, directly)) ∙ ap (option_map (led_on site)) at;
    kept = keeps;
    before = omega (arith, directly);
    between = λ i from to. absurd (omega (arith, from, to, directly));
    passed = λ i target kind jump. passed_then kind target (old_jump i target kind jump);
  }
    where
      passed_by : (old target : ℕ) → target ≡ shifted site old → (site < old) ⊎ (old ≤ site) → (target ≤ site) ⊎ (n < target)
      passed_by old target leads (inl past) = let far = leads ∙ shifted_past site old past in inr (omega (arith, far, past, directly))
      passed_by old target leads (inr low) = let near = leads ∙ shifted_kept site old low in inl (omega (arith, near, low))

      passed_then : (kind : JumpKind) (target : ℕ) → OldJump kind target → (target ≤ site) ⊎ (n < target)
      passed_then kind target jump = passed_by jump.old_target target jump.leads (cases_lt site jump.old_target)

  -- ---- what was behind an access

  module _ (operand : MemoryOperand) (i : ℕ) (from : n ≤ i) (b : IsBehindAccess code operand i) where
    abbrev Between : ℕ → Type 0
    Between j = (instr : Instr) × (slice_get new j ≡ Some instr) × (is_flush_or_fence instr ≡ true)

    old_between : (j k : ℕ) → slice_get new j ≡ option_map (led_on site) (slice_get code k) → b.site < k → k < i → Between j
    old_between j k at low high =
        let (old, there, order) = b.between k low high in (led_on site old, at ∙ ap (option_map (led_on site)) there, orders_on site old order)

    -- the access is then at this place
    module _ (now : ℕ) (there : slice_get new now ≡ Some (instrs.Memory b.access operand)) (least : b.site ≤ now) (most : now ≤ b.site + 1) (moves : (now ≡ b.site + 1) ⊎ (b.site < n)) where
      below_old : (k : ℕ) → now ≤ k → n ≤ k → (now ≡ b.site + 1) ⊎ (b.site < n) → b.site < k
      below_old k low past (inl is) = omega (arith, is, low)
      below_old k low past (inr below) = omega (arith, below, past)

      between_by : (j : ℕ) → now < j → j < suc i → (j < n) ⊎ (n ≤ j) → (n < j) ⊎ (j ≤ n) → Between j
      between_by j low high (inl below) above = old_between j j (new_before j below) (omega (arith, low, least)) (omega (arith, below, from))
      between_by zero low high (inr far) (inl past) = absurd (omega (arith, past))
      between_by (suc j) low high (inr far) (inl past) =
          old_between (suc j) j (new_behind j (omega (arith, past))) (below_old j (omega (arith, low)) (omega (arith, past)) moves) (omega (arith, high))
      between_by j low high (inr far) (inr to) =
          let is : j ≡ n = omega (arith, far, to) in (x, ap (slice_get new) is ∙ insert_there moved n x inside, orders)

      low_target : (old target : ℕ) → old ≤ b.site → target ≡ shifted site old → (site < old) ⊎ (old ≤ site) → (now ≡ b.site + 1) ⊎ (b.site < n) → target ≤ now
      low_target old target low leads (inl past) (inl is) = let far = leads ∙ shifted_past site old past in omega (arith, far, low, is)
      low_target old target low leads (inl past) (inr below) = absurd (omega (arith, past, below, directly, low))
      low_target old target low leads (inr under) moved = let near = leads ∙ shifted_kept site old under in omega (arith, near, low, least)

      high_target : (old target : ℕ) → i < old → target ≡ shifted site old → suc i < target
      high_target old target past leads = let far = leads ∙ shifted_past site old (omega (arith, past, from, directly)) in omega (arith, far, past)

      passed_by : (old target : ℕ) → target ≡ shifted site old → (old ≤ b.site) ⊎ (i < old) → (target ≤ now) ⊎ (suc i < target)
      passed_by old target leads (inl low) = inl (low_target old target low leads (cases_lt site old) moves)
      passed_by old target leads (inr past) = inr (high_target old target past leads)

      passed_then : (kind : JumpKind) (target : ℕ) → OldJump kind target → (target ≤ now) ⊎ (suc i < target)
      passed_then kind target jump = passed_by jump.old_target target jump.leads (b.passed jump.place jump.old_target kind jump.there)

      behind_now : IsBehindAccess new operand (suc i)
      behind_now =
          let under = b.before in record {
            site = now;
            access = b.access;
            there = there;
            kept = b.kept;
            before = omega (arith, most, under);
            between = λ j low high. between_by j low high (cases_lt j n) (cases_lt n j);
            passed = λ j target kind at. passed_then kind target (old_jump j target kind at);
          }

    pub still_behind : IsBehindAccess new operand (suc i)
    still_behind = by (cases_lt b.site n)
      where
        by : (b.site < n) ⊎ (n ≤ b.site) → IsBehindAccess new operand (suc i)
        by (inl below) = behind_now b.site (new_before b.site below ∙ ap (option_map (led_on site)) b.there) (omega arith) (omega arith) (inr below)
        by (inr past) =
            behind_now (suc b.site) (new_behind b.site past ∙ ap (option_map (led_on site)) b.there) (omega arith) (omega arith) (inl (omega arith))
