-- Parts of keys that are the same tell the same processors, persisted values and pending lists.
use Rattle.std.proofs.Common.{◌≡◌, ℕ, zero, suc, ◌<◌, inl, inr, Bool, true, false, Some, None, List, [], ◌∷◌, ◌++◌, length, map, refl, sym, ap, ◌∙◌, arith, append_assoc}
use Rattle.std.specs.Prelude.{◌==◌, if◌then◌else◌, slice_index}
use Rattle.std.specs.List.{list_all}
use Rattle.std.specs.Option.{option_map_or}
use Rattle.std.proofs.lemmas.Bool.{and_parts, cases_Bool, eqb-true, eq-eqb}
use Rattle.std.proofs.lemmas.Grind.{same_number_lists}
use Rattle.lines_layout.specs.Lines.{has_word}
use Rattle.isa.specs.declared.register.Regs.{Regs}
use Rattle.isa.specs.Registers.{reg, registers}
use Rattle.store_buffer.specs.declared.entry.Entry.{Entry}
use Rattle.store_buffer.specs.declared.entry.Entry.TheVariants as entries
use Rattle.persist_buffer.specs.declared.entry.PendingEntry.{PendingEntry}
use Rattle.persist_buffer.specs.declared.entry.PendingEntry.TheVariants.{Write, Marker}
use Rattle.machine.specs.Processors.{programs_of}
use Rattle.machine.specs.State.{Processor, State}
use Rattle.conditions.specs.declared.cond.Comparison.TheVariants.{Equal}
use Rattle.conditions.specs.declared.cond.Operand.TheVariants.{Persisted}
use Rattle.conditions.specs.Formulas.{Formula, Test}
use Rattle.images.specs.Images.{image_at, value_of}
use Rattle.images.proofs.ImagesKeepCoherentValues.{images_keep}
use Rattle.explore.specs.Questions.{AreAlike}
use Rattle.explore.specs.Covering.{AreLike}
use Rattle.explore.specs.Canonical.{canonical}
use Rattle.explore.specs.Sound.{IsOf, has_registers}
use Rattle.explore.specs.Keys.{entries_key, entry_key, key_of, memory_key, pending_key, pendings_key, processor_key, processors_key}
use Rattle.explore.specs.Ran.{flag_number}
use Rattle.explore.specs.Outcomes.{trap_numbers}
use Rattle.explore.proofs.CodesTell.{first_same, rest_same}

-- ---- lists of numbers

-- an encoding that tells, whatever follows
abbrev Tells : {A : Type 0} → (A → List ℕ) → Type 0
Tells {A} key = (a b : A) (xs ys : List ℕ) → key a ++ xs ≡ key b ++ ys → (a ≡ b) × (xs ≡ ys)

flag_same : (a b : Bool) → flag_number a ≡ flag_number b → a ≡ b
flag_same true true e = refl
flag_same true false e = absurd (omega (arith, e))
flag_same false true e = absurd (omega (arith, e))
flag_same false false e = refl

three : (a b c d e f : ℕ) (xs ys : List ℕ) → a ∷ b ∷ c ∷ xs ≡ d ∷ e ∷ f ∷ ys → (a ≡ d) × (b ≡ e) × (c ≡ f) × (xs ≡ ys)
three a b c d e f xs ys is =
    let one = rest_same a d (b ∷ c ∷ xs) (e ∷ f ∷ ys) is in
    let two = rest_same b e (c ∷ xs) (f ∷ ys) one in
    (first_same a d _ _ is, first_same b e _ _ one, first_same c f _ _ two, rest_same c f xs ys two)

apart : {A : Type 0} (m n : ℕ) → m < n → m ≡ n → A
apart m n less same = absurd (omega (arith, less, same))

entry_tells : Tells entry_key
entry_tells (entries.Write w v) (entries.Write x u) xs ys e = let p = three 0 w v 0 x u xs ys e in (λ k. entries.Write (p.1 k) (p.2 k), p.3)
entry_tells (entries.Write w v) (entries.Flush l) xs ys e = let p = three 0 w v 1 l 0 xs ys e in let q = p.0 in absurd (omega (arith, q))
entry_tells (entries.Write w v) (entries.FlushOpt l) xs ys e = let p = three 0 w v 2 l 0 xs ys e in let q = p.0 in absurd (omega (arith, q))
entry_tells (entries.Write w v) entries.Sfence xs ys e = let p = three 0 w v 3 0 0 xs ys e in let q = p.0 in absurd (omega (arith, q))
entry_tells (entries.Flush l) (entries.Write x u) xs ys e = let p = three 1 l 0 0 x u xs ys e in let q = p.0 in absurd (omega (arith, q))
entry_tells (entries.Flush l) (entries.Flush j) xs ys e = let p = three 1 l 0 1 j 0 xs ys e in (λ k. entries.Flush (p.1 k), p.3)
entry_tells (entries.Flush l) (entries.FlushOpt j) xs ys e = let p = three 1 l 0 2 j 0 xs ys e in let q = p.0 in absurd (omega (arith, q))
entry_tells (entries.Flush l) entries.Sfence xs ys e = let p = three 1 l 0 3 0 0 xs ys e in let q = p.0 in absurd (omega (arith, q))
entry_tells (entries.FlushOpt l) (entries.Write x u) xs ys e = let p = three 2 l 0 0 x u xs ys e in let q = p.0 in absurd (omega (arith, q))
entry_tells (entries.FlushOpt l) (entries.Flush j) xs ys e = let p = three 2 l 0 1 j 0 xs ys e in let q = p.0 in absurd (omega (arith, q))
entry_tells (entries.FlushOpt l) (entries.FlushOpt j) xs ys e = let p = three 2 l 0 2 j 0 xs ys e in (λ k. entries.FlushOpt (p.1 k), p.3)
entry_tells (entries.FlushOpt l) entries.Sfence xs ys e = let p = three 2 l 0 3 0 0 xs ys e in let q = p.0 in absurd (omega (arith, q))
entry_tells entries.Sfence (entries.Write x u) xs ys e = let p = three 3 0 0 0 x u xs ys e in let q = p.0 in absurd (omega (arith, q))
entry_tells entries.Sfence (entries.Flush j) xs ys e = let p = three 3 0 0 1 j 0 xs ys e in let q = p.0 in absurd (omega (arith, q))
entry_tells entries.Sfence (entries.FlushOpt j) xs ys e = let p = three 3 0 0 2 j 0 xs ys e in let q = p.0 in absurd (omega (arith, q))
entry_tells entries.Sfence entries.Sfence xs ys e = (refl, (three 3 0 0 3 0 0 xs ys e).3)

pending_tells : Tells pending_key
pending_tells (Write w v) (Write x u) xs ys e = let p = three 0 w v 0 x u xs ys e in (λ k. Write (p.1 k) (p.2 k), p.3)
pending_tells (Write w v) (Marker l) xs ys e = let p = three 0 w v 1 l 0 xs ys e in let q = p.0 in absurd (omega (arith, q))
pending_tells (Marker l) (Write x u) xs ys e = let p = three 1 l 0 0 x u xs ys e in let q = p.0 in absurd (omega (arith, q))
pending_tells (Marker l) (Marker j) xs ys e = let p = three 1 l 0 1 j 0 xs ys e in (λ k. Marker (p.1 k), p.3)

entries_tell : (a b : List Entry) (xs ys : List ℕ) → length a ≡ length b → entries_key a ++ xs ≡ entries_key b ++ ys → (a ≡ b) × (xs ≡ ys)
entries_tell [] [] xs ys same e = (refl, e)
entries_tell [] (y ∷ b) xs ys same e = absurd (omega (arith, same))
entries_tell (x ∷ a) [] xs ys same e = absurd (omega (arith, same))
entries_tell (x ∷ a) (y ∷ b) xs ys same e =
    let first = entry_tells x y (entries_key a ++ xs) (entries_key b ++ ys) (sym (append_assoc (entry_key x) (entries_key a) xs) ∙ e ∙ append_assoc (entry_key y) (entries_key b) ys) in
    let rest = entries_tell a b xs ys (omega (arith, same)) first.1 in
    (λ k. first.0 k ∷ rest.0 k, rest.1)

pendings_tell : (a b : List PendingEntry) (xs ys : List ℕ) → length a ≡ length b → pendings_key a ++ xs ≡ pendings_key b ++ ys → (a ≡ b) × (xs ≡ ys)
pendings_tell [] [] xs ys same e = (refl, e)
pendings_tell [] (y ∷ b) xs ys same e = absurd (omega (arith, same))
pendings_tell (x ∷ a) [] xs ys same e = absurd (omega (arith, same))
pendings_tell (x ∷ a) (y ∷ b) xs ys same e =
    let first = pending_tells x y (pendings_key a ++ xs) (pendings_key b ++ ys) (sym (append_assoc (pending_key x) (pendings_key a) xs) ∙ e ∙ append_assoc (pending_key y) (pendings_key b) ys) in
    let rest = pendings_tell a b xs ys (omega (arith, same)) first.1 in
    (λ k. first.0 k ∷ rest.0 k, rest.1)

trap_tells : Tells trap_numbers
trap_tells None None xs ys e = (refl, rest_same 0 0 xs ys (rest_same 0 0 (0 ∷ xs) (0 ∷ ys) e))
trap_tells None (Some a) xs ys e = let q = first_same 0 1 (0 ∷ xs) (a ∷ ys) e in absurd (omega (arith, q))
trap_tells (Some a) None xs ys e = let q = first_same 1 0 (a ∷ xs) (0 ∷ ys) e in absurd (omega (arith, q))
trap_tells (Some a) (Some b) xs ys e =
    let one = rest_same 1 1 (a ∷ xs) (b ∷ ys) e in
    (ap (λ (n : ℕ). Some n) (first_same a b xs ys one), rest_same a b xs ys one)

-- eight values
eight : (v w xs ys : List ℕ) → length v ≡ 8 → length w ≡ 8 → map (slice_index v) (0 ∷ 1 ∷ 2 ∷ 3 ∷ 4 ∷ 5 ∷ 6 ∷ 7 ∷ []) ++ xs ≡ map (slice_index w) (0 ∷ 1 ∷ 2 ∷ 3 ∷ 4 ∷ 5 ∷ 6 ∷ 7 ∷ []) ++ ys → (v ≡ w) × (xs ≡ ys)
eight v w xs ys lv lw e =
    let e1 = rest_same _ _ _ _ e in
    let e2 = rest_same _ _ _ _ e1 in
    let e3 = rest_same _ _ _ _ e2 in
    let e4 = rest_same _ _ _ _ e3 in
    let e5 = rest_same _ _ _ _ e4 in
    let e6 = rest_same _ _ _ _ e5 in
    let e7 = rest_same _ _ _ _ e6 in
    let f0 = first_same _ _ _ _ e in
    let f1 = first_same _ _ _ _ e1 in
    let f2 = first_same _ _ _ _ e2 in
    let f3 = first_same _ _ _ _ e3 in
    let f4 = first_same _ _ _ _ e4 in
    let f5 = first_same _ _ _ _ e5 in
    let f6 = first_same _ _ _ _ e6 in
    let f7 = first_same _ _ _ _ e7 in
    (same_number_lists v w (lv ∙ sym lw) (each f0 f1 f2 f3 f4 f5 f6 f7), rest_same _ _ _ _ e7)
  where
    each : slice_index v 0 ≡ slice_index w 0 → slice_index v 1 ≡ slice_index w 1 → slice_index v 2 ≡ slice_index w 2 → slice_index v 3 ≡ slice_index w 3
        → slice_index v 4 ≡ slice_index w 4 → slice_index v 5 ≡ slice_index w 5 → slice_index v 6 ≡ slice_index w 6 → slice_index v 7 ≡ slice_index w 7
        → (k : ℕ) → k < length v → slice_index v k ≡ slice_index w k
    each f0 f1 f2 f3 f4 f5 f6 f7 zero less = f0
    each f0 f1 f2 f3 f4 f5 f6 f7 (suc zero) less = f1
    each f0 f1 f2 f3 f4 f5 f6 f7 (suc (suc zero)) less = f2
    each f0 f1 f2 f3 f4 f5 f6 f7 (suc (suc (suc zero))) less = f3
    each f0 f1 f2 f3 f4 f5 f6 f7 (suc (suc (suc (suc zero)))) less = f4
    each f0 f1 f2 f3 f4 f5 f6 f7 (suc (suc (suc (suc (suc zero))))) less = f5
    each f0 f1 f2 f3 f4 f5 f6 f7 (suc (suc (suc (suc (suc (suc zero)))))) less = f6
    each f0 f1 f2 f3 f4 f5 f6 f7 (suc (suc (suc (suc (suc (suc (suc zero))))))) less = f7
    each f0 f1 f2 f3 f4 f5 f6 f7 (suc (suc (suc (suc (suc (suc (suc (suc k)))))))) less = absurd (omega (arith, less, lv))

regs_tell : (a b : Regs) (xs ys : List ℕ) → length a.values ≡ 8 → length b.values ≡ 8 → a.zero ≡ b.zero → map (reg a) registers ++ xs ≡ map (reg b) registers ++ ys → (a ≡ b) × (xs ≡ ys)
regs_tell a b xs ys la lb zeros e =
    let both = eight a.values b.values xs ys la lb e in (λ k. record { values = both.0 k; zero = zeros k }, both.1)

-- ---- processors

abbrev tail_key : Processor → List ℕ
tail_key c = map (reg c.regs) registers ++ (length c.buffer ∷ entries_key c.buffer)

processor_tells : (c d : Processor) (xs ys : List ℕ) → programs_of c ≡ programs_of d → has_registers c ≡ true → has_registers d ≡ true → processor_key c ++ xs ≡ processor_key d ++ ys → (c ≡ d) × (xs ≡ ys)
processor_tells c d xs ys programs full_c full_d e =
    let head = three c.place (flag_number c.recovering) (flag_number c.regs.zero) d.place (flag_number d.recovering) (flag_number d.regs.zero) ((trap_numbers c.trap ++ tail_key c) ++ xs) ((trap_numbers d.trap ++ tail_key d) ++ ys) e in
    let trap = trap_tells c.trap d.trap (tail_key c ++ xs) (tail_key d ++ ys) (sym (append_assoc (trap_numbers c.trap) (tail_key c) xs) ∙ head.3 ∙ append_assoc (trap_numbers d.trap) (tail_key d) ys) in
    let regs = regs_tell c.regs d.regs ((length c.buffer ∷ entries_key c.buffer) ++ xs) ((length d.buffer ∷ entries_key d.buffer) ++ ys) (eqb-true _ _ full_c) (eqb-true _ _ full_d) (flag_same c.regs.zero d.regs.zero head.2)
    (sym (append_assoc (map (reg c.regs) registers) (length c.buffer ∷ entries_key c.buffer) xs) ∙ trap.1 ∙ append_assoc (map (reg d.regs) registers) (length d.buffer ∷ entries_key d.buffer) ys) in
    let buffers = entries_tell c.buffer d.buffer xs ys (first_same _ _ _ _ regs.1) (rest_same _ _ _ _ regs.1) in
    let recovering = flag_same c.recovering d.recovering head.1 in (
      λ k. record {
        main = (programs k).main;
        recovery = (programs k).recovery;
        recovering = recovering k;
        place = head.0 k;
        regs = regs.0 k;
        trap = trap.0 k;
        buffer = buffers.0 k;
      },
      buffers.1,
    )

pub processors_tell : (cs ds : List Processor) (xs ys : List ℕ) → map programs_of cs ≡ map programs_of ds → list_all has_registers cs ≡ true → list_all has_registers ds ≡ true
    → processors_key cs ++ xs ≡ processors_key ds ++ ys → (cs ≡ ds) × (xs ≡ ys)
processors_tell [] [] xs ys programs full_c full_d e = (refl, e)
processors_tell [] (d ∷ ds) xs ys programs full_c full_d e = absurd (cc)
processors_tell (c ∷ cs) [] xs ys programs full_c full_d e = absurd (cc)
processors_tell (c ∷ cs) (d ∷ ds) xs ys programs full_c full_d e =
    let one : programs_of c ≡ programs_of d = cc in
    let others : map programs_of cs ≡ map programs_of ds = cc in
    let fc = and_parts (has_registers c) (list_all has_registers cs) full_c in
    let fd = and_parts (has_registers d) (list_all has_registers ds) full_d in
    let first = processor_tells c d (processors_key cs ++ xs) (processors_key ds ++ ys) one fc.0 fd.0 (sym (append_assoc (processor_key c) (processors_key cs) xs) ∙ e ∙ append_assoc (processor_key d) (processors_key ds) ys) in
    let rest = processors_tell cs ds xs ys others fc.1 fd.1 first.1 in
    (λ k. first.0 k ∷ rest.0 k, rest.1)

-- ---- persisted values

-- a state with these persisted values and no more
abbrev bare : List ℕ → List ℕ → State
bare shape xs = record { turns = 0; crashes = 0; shape = shape; processors = []; memory = record { pending = []; persisted = xs } }

abbrev asks : ℕ → ℕ → Formula
asks word n = Test (Persisted word) Equal n

shown : (shape xs : List ℕ) (word n : ℕ) → has_word shape word ≡ true → option_map_or (λ v. v == n) (value_of shape (image_at shape xs) word) false ≡ (slice_index xs word == n)
shown shape xs word n there =
    images_keep (bare shape xs) xs (asks word n) (0, record { pending = []; persisted = xs }, refl, refl) ∙ ap (λ (b : Bool). option_map_or (λ v. v == n) (if b then Some (slice_index xs word) else None) false) there

value_tells : (shape xs ys : List ℕ) (word : ℕ) → has_word shape word ≡ true → image_at shape xs ≡ image_at shape ys → slice_index xs word ≡ slice_index ys word
value_tells shape xs ys word there same =
    let n = slice_index ys word in
    let both : (slice_index xs word == n) ≡ (slice_index ys word == n) =
    sym (shown shape xs word n there) ∙ ap (λ (image : List ℕ). option_map_or (λ v. v == n) (value_of shape image word) false) same ∙ shown shape ys word n there in
    eqb-true (slice_index xs word) n (both ∙ eq-eqb n n refl)

pub values_tell : (shape xs ys : List ℕ) → length xs ≡ length ys → ((word : ℕ) → has_word shape word ≡ false → slice_index xs word ≡ slice_index ys word) → image_at shape xs ≡ image_at shape ys → xs ≡ ys
values_tell shape xs ys long outside same =
    same_number_lists xs ys long (λ word within. elim (cases_Bool (has_word shape word)) [
      | inl there ↦ value_tells shape xs ys word there same
      | inr lacks ↦ outside word lacks
    ])

-- ---- memories

-- those whose keys tell the order of what is pending
pub canonical_tells : (start a b : State) → IsOf start a → IsOf start b → memory_key false a ≡ memory_key false b → AreLike false a.memory b.memory
canonical_tells start a b is_a is_b e =
    let long = first_same _ _ _ _ e in
    let pending = pendings_tell (canonical a.memory.pending) (canonical b.memory.pending) _ _ long (rest_same _ _ _ _ e) in
    let shape : a.shape ≡ b.shape = is_a.sibling.shape ∙ sym is_b.sibling.shape in
    let image : image_at a.shape a.memory.persisted ≡ image_at a.shape b.memory.persisted = pending.1 ∙ ap (λ (s : List ℕ). image_at s b.memory.persisted) (sym shape) in
    let persisted = values_tell a.shape a.memory.persisted b.memory.persisted (is_a.sound.persisted ∙ sym is_b.sound.persisted)
    (λ word lacks. let none = ap (λ (s : List ℕ). has_word s word) (sym is_a.sibling.shape) ∙ lacks in is_a.outside word none ∙ sym (is_b.outside word none)) image in
    (sym persisted, sym pending.0)

pub alike_keys : (sets : Bool) (a b : State) → AreAlike a b → key_of sets a ≡ key_of sets b
alike_keys true a b same = λ k. key_of true (record { turns = 0; crashes = 0; shape = sym same.shape k; processors = sym same.processors k; memory = sym same.memory k })
alike_keys false a b same = λ k. key_of false (record { turns = 0; crashes = 0; shape = sym same.shape k; processors = sym same.processors k; memory = sym same.memory k })
