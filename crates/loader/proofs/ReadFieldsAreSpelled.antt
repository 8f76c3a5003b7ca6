-- The fields of an object: what is read is spelled so.
use Rattle.std.proofs.Common.{◌≡◌, ◌≢◌, ℕ, zero, suc, ◌+◌, ◌*◌, ◌/◌, ◌%◌, ◌^◌, ◌<◌, ◌≤◌, Bool, true, false, ltb, List, [], ◌∷◌, ◌++◌, length, get_or, take, drop, Result, Ok, Err, refl, sym, ap, subst, ◌∙◌, arith}
use Rattle.std.specs.Prelude.{slice_set, ◌||◌}
use Rattle.std.specs.Int.{w32, w64, to_le_bytes}
use Rattle.std.specs.List.{list_any, range_with_len, flat_map, AllByRecursion}
use Rattle.std.proofs.lemmas.Bool.{ltb-false}
use Rattle.std.proofs.lemmas.List.{get_or-set_other, length-set, length-take, take-append-drop}
use Rattle.std.proofs.lemmas.List.Concat.{flat_map-cons}
use Rattle.lines_layout.specs.declared.fault.LayoutFault.{LayoutFault}
use Rattle.lines_layout.specs.declared.fault.LayoutFault.TheVariants as layouts
use Rattle.lines_layout.specs.Lines.{max_lines}
use Rattle.lines_layout.specs.Shapes.{shape_of, words_from}
use Rattle.isa.specs.declared.instr.Instr.{Instr}
use Rattle.isa.specs.declared.programs.Programs.{Programs}
use Rattle.codec.specs.Code.{HasCode, IsCode, code_of}
use Rattle.codec.specs.Programs.{program_of}
use Rattle.loader.specs.declared.fault.ObjectFault.{ObjectFault}
use Rattle.loader.specs.declared.fault.ObjectFault.TheVariants.{BadCount, BadCode}
use Rattle.loader.specs.declared.fault.ProgramRole.{ProgramRole}
use Rattle.loader.specs.declared.fault.ProgramRole.TheVariants.{Main, Recovery}
use Rattle.outcomes.specs.Outcomes.{◌>>=◌, refuse, refused_as}
use Rattle.outcomes.proofs.PartsOfOutcomes.{bind_ok}
use Rattle.loader.specs.Reading.{front_at, number_at, count_at, shape_at, values_at, code_at, programs_at, processors_at}
use Rattle.loader.specs.Spelling.{code_bytes, programs_bytes, HaveCodes}
use Rattle.codec.proofs.Numbers.{IsBytes, IsBytes-drop, IsBytes-take, wide32}
use Rattle.loader.proofs.NumberFields.{refuse_ok, ok_is, Takes, Takes-then, front_takes, number_takes}
use Rattle.loader.proofs.ValueFields.{Sizes}

pub IsBytes-rest : (b : ℕ) (bytes : List ℕ) → IsBytes (b ∷ bytes) → IsBytes bytes
IsBytes-rest b bytes h i = h (suc i)

-- so many bytes, as a field
pub front_is : (n : ℕ) (bytes : List ℕ) (x : List ℕ × List ℕ) → IsBytes bytes → front_at n bytes ≡ Ok x → Takes bytes x.0 x.1 × (length x.0 ≡ n) × IsBytes x.0
front_is n bytes x fits e =
    let f = front_takes n bytes x e in
    let made : Takes bytes (take n bytes) (drop n bytes) × (length (take n bytes) ≡ n) × IsBytes (take n bytes) =
    (record { parts = sym (take-append-drop n bytes); rest_fits = IsBytes-drop n bytes fits }, omega (arith, length-take n bytes, f.0), IsBytes-take n bytes fits) in
    subst (λ (y : List ℕ × List ℕ). Takes bytes y.0 y.1 × (length y.0 ≡ n) × IsBytes y.0) (sym f.1) made

-- ---- counts

pub count_takes : (most : ℕ) (bytes : List ℕ) (x : ℕ × List ℕ) → IsBytes bytes → count_at most bytes ≡ Ok x → Takes bytes (x.0 ∷ []) x.1 × (x.0 ≤ most)
unfolding count_at
count_takes most [] x fits e = absurd cc
count_takes most (b ∷ bytes) x fits e =
    let g = refuse_ok BadCount (ltb most b) (λ few. Ok (b, bytes)) x e in
    subst (λ (y : ℕ × List ℕ). Takes (b ∷ bytes) (y.0 ∷ []) y.1 × (y.0 ≤ most)) (ok_is (b, bytes) x g.1) (record { parts = refl; rest_fits = IsBytes-rest b bytes fits }, ltb-false _ _ g.0)

-- ---- the shape

abbrev pub bad_count : LayoutFault → ObjectFault
bad_count fault = BadCount

pub refused_ok : {A E F : Type 0} (f : E → F) (r : Result A E) (a : A) → refused_as f r ≡ Ok a → r ≡ Ok a
refused_ok {A} {E} f (Ok b) a e = let same : b ≡ a = cc in ap (λ (c : A). Ok c) same
refused_ok f (Err fault) a e = absurd cc

either_false : (p q : Bool) → (p || q) ≡ false → (p ≡ false) × (q ≡ false)
either_false true q e = absurd cc
either_false false q e = (refl, e)

none_long : (words : List ℕ) → list_any (ltb 8) words ≡ false → Sizes words
none_long [] e = tt
none_long (n ∷ words) e =
    let p = either_false (ltb 8 n) (list_any (ltb 8) words) e in
    (ltb-false _ _ p.0, none_long words p.1)

abbrev the_layout : List ℕ → Result (List ℕ) LayoutFault
the_layout s = Ok s

layout_ok : (s t : List ℕ) → the_layout s ≡ Ok t → s ≡ t
layout_ok s t e = cc

pub shape_is : (words s : List ℕ) → shape_of words ≡ Ok s → (words ≡ s) × (length words ≤ 64) × Sizes words
shape_is words s e =
    let a = refuse_ok layouts.TooManyLines (ltb 64 (length words)) (λ few. refuse layouts.LineTooLong (list_any (ltb 8) words) >>= λ short. Ok words) s e in
    let b = refuse_ok layouts.LineTooLong (list_any (ltb 8) words) (λ short. Ok words) s a.1 in
    (layout_ok words s b.1, ltb-false _ _ a.0, none_long words b.0)

shape_whole : (bytes : List ℕ) (n : ℕ) (after shape front rest : List ℕ) → IsBytes after → Takes bytes (n ∷ []) after → shape_of (take n after) ≡ Ok shape → front_at n after ≡ Ok (front, rest)
    → Takes bytes (length shape ∷ shape) rest × (length shape ≤ 64) × Sizes shape
shape_whole bytes n after shape front rest fits first e f =
    let is = shape_is (take n after) shape e in
    let there = front_is n after (front, rest) fits f in
    let same : front ≡ shape = ap (λ (p : List ℕ × List ℕ). p.0) (front_takes n after (front, rest) f).1 ∙ is.0 in
    let len : n ≡ length shape = sym there.1 ∙ ap (λ (l : List ℕ). length l) same in
    let second : Takes after shape rest = subst (λ (l : List ℕ). Takes after l rest) same there.0 in
    let both : Takes bytes (n ∷ shape) rest = Takes-then bytes (n ∷ []) after shape rest first second in
    (subst (λ (k : ℕ). Takes bytes (k ∷ shape) rest) len both, subst (λ (l : List ℕ). length l ≤ 64) is.0 is.1, subst Sizes is.0 is.2)

pub shape_takes : (bytes : List ℕ) (x : List ℕ × List ℕ) → IsBytes bytes → shape_at bytes ≡ Ok x → Takes bytes (length x.0 ∷ x.0) x.1 × (length x.0 ≤ 64) × Sizes x.0
unfolding shape_at
shape_takes bytes x fits e =
    let n = bind_ok (count_at max_lines bytes) (λ n. refused_as bad_count (shape_of (take n.0 n.1)) >>= λ shape. front_at n.0 n.1 >>= λ front. Ok (shape, front.1)) x e in
    let s = bind_ok (refused_as bad_count (shape_of (take n.0.0 n.0.1))) (λ shape. front_at n.0.0 n.0.1 >>= λ front. Ok (shape, front.1)) x n.2 in
    let f = bind_ok (front_at n.0.0 n.0.1) (λ front. Ok (s.0, front.1)) x s.2 in
    let first = count_takes max_lines bytes n.0 fits n.1 in
    let whole = shape_whole bytes n.0.0 n.0.1 s.0 f.0.0 f.0.1 first.0.rest_fits first.0 (refused_ok bad_count (shape_of (take n.0.0 n.0.1)) s.0 s.1) f.1 in
    subst (λ (y : List ℕ × List ℕ). Takes bytes (length y.0 ∷ y.0) y.1 × (length y.0 ≤ 64) × Sizes y.0) {x = (s.0, f.0.1)} (ok_is (s.0, f.0.1) x f.2) whole

-- ---- codes

abbrev pub Codes : Type 0
Codes = (shape bytes : List ℕ) (code : List Instr) → IsBytes bytes → program_of shape bytes ≡ Ok code → IsCode shape code bytes

code_whole : (codes : Codes) (shape bytes : List ℕ) (n : ℕ) (after front rest : List ℕ) (program : List Instr) → IsBytes after → Takes bytes (to_le_bytes w32 n) after → front_at n after ≡ Ok (front, rest)
    → program_of shape front ≡ Ok program → Takes bytes (code_bytes program) rest × HasCode shape program
code_whole codes shape bytes n after front rest program fits first f e =
    let there = front_is n after (front, rest) fits f in
    let code = codes shape front program there.2 e in
    let len : n ≡ length (code_of program) = sym there.1 ∙ ap (λ (l : List ℕ). length l) code.same in
    let both : Takes bytes (to_le_bytes w32 n ++ front) rest = Takes-then bytes (to_le_bytes w32 n) after front rest first there.0 in
    let spelled : Takes bytes (to_le_bytes w32 n ++ code_of program) rest = subst (λ (l : List ℕ). Takes bytes (to_le_bytes w32 n ++ l) rest) code.same both in
    (subst (λ (k : ℕ). Takes bytes (to_le_bytes w32 k ++ code_of program) rest) len spelled, code.has)

pub code_takes : (codes : Codes) (shape : List ℕ) (cpu : ℕ) (role : ProgramRole) (bytes : List ℕ) (x : List Instr × List ℕ) → IsBytes bytes → code_at shape cpu role bytes ≡ Ok x → Takes bytes (code_bytes x.0) x.1 × HasCode shape x.0
unfolding code_at
code_takes codes shape cpu role bytes x fits e =
    let n = bind_ok (number_at w32 bytes) (λ n. front_at n.0 n.1 >>= λ front. refused_as (BadCode cpu role) (program_of shape front.0) >>= λ code. Ok (code, front.1)) x e in
    let f = bind_ok (front_at n.0.0 n.0.1) (λ front. refused_as (BadCode cpu role) (program_of shape front.0) >>= λ code. Ok (code, front.1)) x n.2 in
    let d = bind_ok (refused_as (BadCode cpu role) (program_of shape f.0.0)) (λ code. Ok (code, f.0.1)) x f.2 in
    let first = number_takes w32 (2 ^ 32) wide32 bytes n.0.0 n.0.1 fits n.1 in
    let whole = code_whole codes shape bytes n.0.0 n.0.1 f.0.0 f.0.1 d.0 first.0.rest_fits first.0 f.1 (refused_ok (BadCode cpu role) (program_of shape f.0.0) d.0 d.1) in
    subst (λ (y : List Instr × List ℕ). Takes bytes (code_bytes y.0) y.1 × HasCode shape y.0) {x = (d.0, f.0.1)} (ok_is (d.0, f.0.1) x d.2) whole

pub programs_take : (codes : Codes) (shape : List ℕ) (cpu : ℕ) (bytes : List ℕ) (x : Programs × List ℕ) → IsBytes bytes → programs_at shape cpu bytes ≡ Ok x → Takes bytes (programs_bytes x.0) x.1 × HaveCodes shape x.0
unfolding programs_at
programs_take codes shape cpu bytes x fits e =
    let a = bind_ok (code_at shape cpu Main bytes) (λ main. code_at shape cpu Recovery main.1 >>= λ recovery. Ok (record { main = main.0; recovery = recovery.0 }, recovery.1)) x e in
    let b = bind_ok (code_at shape cpu Recovery a.0.1) (λ recovery. Ok (record { main = a.0.0; recovery = recovery.0 }, recovery.1)) x a.2 in
    let first = code_takes codes shape cpu Main bytes a.0 fits a.1 in
    let second = code_takes codes shape cpu Recovery a.0.1 b.0 first.0.rest_fits b.1 in
    let both = Takes-then bytes (code_bytes a.0.0) a.0.1 (code_bytes b.0.0) b.0.1 first.0 second.0 in
    let made : Programs × List ℕ = (record { main = a.0.0; recovery = b.0.0 }, b.0.1) in
    subst (λ (y : Programs × List ℕ). Takes bytes (programs_bytes y.0) y.1 × HaveCodes shape y.0) {x = made} (ok_is made x b.2) (both, (first.1, second.1))

pub processors_take : (codes : Codes) (shape : List ℕ) (n cpu : ℕ) (bytes : List ℕ) (x : List Programs × List ℕ) → IsBytes bytes → processors_at shape cpu n bytes ≡ Ok x
    → Takes bytes (flat_map programs_bytes x.0) x.1 × (length x.0 ≡ n) × AllByRecursion (HaveCodes shape) x.0
unfolding processors_at
processors_take codes shape zero cpu bytes x fits e =
    subst (λ (y : List Programs × List ℕ). Takes bytes (flat_map programs_bytes y.0) y.1 × (length y.0 ≡ 0) × AllByRecursion (HaveCodes shape) y.0) (ok_is ([], bytes) x e) (record { parts = refl; rest_fits = fits }, refl, tt)
processors_take codes shape (suc n) cpu bytes x fits e =
    let a = bind_ok (programs_at shape cpu bytes) (λ first. processors_at shape (cpu + 1) n first.1 >>= λ others. Ok (first.0 ∷ others.0, others.1)) x e in
    let b = bind_ok (processors_at shape (cpu + 1) n a.0.1) (λ others. Ok (a.0.0 ∷ others.0, others.1)) x a.2 in
    let first = programs_take codes shape cpu bytes a.0 fits a.1 in
    let second = processors_take codes shape n (cpu + 1) a.0.1 b.0 first.0.rest_fits b.1 in
    let both = Takes-then bytes (programs_bytes a.0.0) a.0.1 (flat_map programs_bytes b.0.0) b.0.1 first.0 second.0 in
    let made : List Programs × List ℕ = (a.0.0 ∷ b.0.0, b.0.1) in
    subst (λ (y : List Programs × List ℕ). Takes bytes (flat_map programs_bytes y.0) y.1 × (length y.0 ≡ suc n) × AllByRecursion (HaveCodes shape) y.0) {x = made} (ok_is made x b.2) (rw flat_map-cons both, ap suc second.1, (first.1, second.2))

-- ---- words that are none of the shape

abbrev pub Absent : ℕ → List ℕ → ℕ → Type 0
Absent g shape w = (k : ℕ) → w / 8 ≡ g + k → get_or shape k 0 ≤ w % 8

absent_range : (a n w : ℕ) (ws : List ℕ) → ((v : ℕ) → a ≤ v → v < a + n → v ≢ w) → AllByRecursion (λ v. v ≢ w) ws → AllByRecursion (λ v. v ≢ w) (range_with_len a n ++ ws)
absent_range a zero w ws f h = h
absent_range a (suc n) w ws f h = (f a (omega arith) (omega arith), absent_range (a + 1) n w ws (λ v lo hi. f v (omega (arith, lo)) (omega (arith, hi))) h)

pub absent_words : (g : ℕ) (shape : List ℕ) (w : ℕ) → Sizes shape → Absent g shape w → AllByRecursion (λ v. v ≢ w) (words_from g shape)
absent_words g [] w sizes absent = tt
absent_words g (n ∷ shape) w sizes absent =
    absent_range (8 * g) n w (words_from (g + 1) shape)
    (λ v lo hi (h : v ≡ w). omega (arith, lo, hi, h, sizes.0, absent 0 (omega (arith, lo, hi, h, sizes.0))))
    (absent_words (g + 1) shape w sizes.1 (λ k e. absent (suc k) (omega (arith, e))))

pub values_other : (words values bytes : List ℕ) (x : List ℕ × List ℕ) (w : ℕ) → values_at words values bytes ≡ Ok x → AllByRecursion (λ v. v ≢ w) words → get_or x.0 w 0 ≡ get_or values w 0
unfolding values_at
values_other [] values bytes x w e absent = ap (λ (p : List ℕ × List ℕ). get_or p.0 w 0) (sym (ok_is (values, bytes) x e))
values_other (v ∷ words) values bytes x w e absent =
    let n = bind_ok (number_at w64 bytes) (λ n. values_at words (slice_set values v n.0) n.1) x e in
    let other : w ≢ v = λ (h : w ≡ v). absent.0 (sym h) in
    values_other words (slice_set values v n.0.0) n.0.1 x w n.2 absent.1 ∙ get_or-set_other values v w n.0.0 0 other

pub values_len : (words values bytes : List ℕ) (x : List ℕ × List ℕ) → values_at words values bytes ≡ Ok x → length x.0 ≡ length values
unfolding values_at
values_len [] values bytes x e = ap (λ (p : List ℕ × List ℕ). length p.0) (sym (ok_is (values, bytes) x e))
values_len (v ∷ words) values bytes x e =
    let n = bind_ok (number_at w64 bytes) (λ n. values_at words (slice_set values v n.0) n.1) x e in
    values_len words (slice_set values v n.0.0) n.0.1 x n.2 ∙ length-set values v n.0.0
