-- The values of words: what is read is spelled so, and what is spelled so is read.
use Rattle.std.proofs.Common.{◌≡◌, ◌≢◌, ℕ, zero, suc, ◌+◌, ◌*◌, ◌^◌, ◌<◌, ◌≤◌, List, [], ◌∷◌, ◌++◌, length, get_or, Ok, refl, sym, ap, subst, ◌∙◌, append_assoc, arith}
use Rattle.std.specs.Prelude.{slice_set}
use Rattle.std.specs.Int.{w64}
use Rattle.std.specs.List.{range_with_len, flat_map, AllByRecursion}
use Rattle.std.proofs.lemmas.List.{get_or-set_same, get_or-set_other, length-set}
use Rattle.std.proofs.lemmas.List.Concat.{flat_map-cons}
use Rattle.lines_layout.specs.Shapes.{words_from}
use Rattle.outcomes.specs.Outcomes.{◌>>=◌}
use Rattle.outcomes.proofs.PartsOfOutcomes.{bind_ok}
use Rattle.loader.specs.Spelling.{value_bytes}
use Rattle.loader.specs.Reading.{Field, number_at, values_at}
use Rattle.codec.proofs.Numbers.{IsBytes, wide64}
use Rattle.loader.proofs.NumberFields.{ok_is, Takes, Takes-then, number_takes, number_again}

-- the words rise, the first from this number on, and stay below a limit
abbrev pub Rises : ℕ → ℕ → List ℕ → Type 0
Rises low limit [] = low ≤ limit
Rises low limit (w ∷ ws) = (low ≤ w) × Rises (w + 1) limit ws

pub rises_below : (low limit : ℕ) (ws : List ℕ) → Rises low limit ws → low ≤ limit
rises_below low limit [] h = h
rises_below low limit (w ∷ ws) h = omega (arith, h.0, rises_below (w + 1) limit ws h.1)

pub rises_lower : (low high limit : ℕ) (ws : List ℕ) → low ≤ high → Rises high limit ws → Rises low limit ws
rises_lower low high limit [] le h = omega (arith, le, h)
rises_lower low high limit (w ∷ ws) le h = (omega (arith, le, h.0), h.1)

pub rises_range : (a n limit : ℕ) (ws : List ℕ) → Rises (a + n) limit ws → Rises a limit (range_with_len a n ++ ws)
rises_range a zero limit ws h = rises_lower a (a + 0) limit ws (omega arith) h
rises_range a (suc n) limit ws h = (omega arith, rises_range (a + 1) n limit ws (rises_lower (a + 1 + n) (a + suc n) limit ws (omega arith) h))

-- at most eight words a line
abbrev pub Sizes : List ℕ → Type 0
Sizes shape = AllByRecursion (λ n. n ≤ 8) shape

pub words_rise : (g : ℕ) (shape : List ℕ) → Sizes shape → Rises (8 * g) (8 * (g + length shape)) (words_from g shape)
words_rise g [] sizes = omega arith
words_rise g (n ∷ shape) sizes =
    let more : Rises (8 * (g + 1)) (8 * (g + 1 + length shape)) (words_from (g + 1) shape) = words_rise (g + 1) shape sizes.1 in
    let limit : 8 * (g + 1 + length shape) ≡ 8 * (g + suc (length shape)) = omega arith in
    let same : Rises (8 * (g + 1)) (8 * (g + suc (length shape))) (words_from (g + 1) shape) = subst (λ (k : ℕ). Rises (8 * (g + 1)) k (words_from (g + 1) shape)) limit more in
    rises_range (8 * g) n (8 * (g + suc (length shape))) (words_from (g + 1) shape) (rises_lower (8 * g + n) (8 * (g + 1)) (8 * (g + suc (length shape))) (words_from (g + 1) shape) (omega (arith, sizes.0)) same)

-- words below those that are read keep their values, and the count of values stays
pub values_keep : (words values bytes : List ℕ) (x : List ℕ × List ℕ) (low limit w : ℕ) → values_at words values bytes ≡ Ok x → Rises low limit words → w < low → (get_or x.0 w 0 ≡ get_or values w 0) × (length x.0 ≡ length values)
unfolding values_at
values_keep [] values bytes x low limit w e rises lt =
    let same = ok_is (values, bytes) x e in
    (ap (λ (p : List ℕ × List ℕ). get_or p.0 w 0) (sym same), ap (λ (p : List ℕ × List ℕ). length p.0) (sym same))
values_keep (v ∷ words) values bytes x low limit w e rises lt =
    let n = bind_ok (number_at w64 bytes) (λ n. values_at words (slice_set values v n.0) n.1) x e in
    let later = values_keep words (slice_set values v n.0.0) n.0.1 x (v + 1) limit w n.2 rises.1 (omega (arith, lt, rises.0)) in
    let other : w ≢ v = λ (h : w ≡ v). omega (arith, h, lt, rises.0) in
    (later.0 ∙ get_or-set_other values v w n.0.0 0 other, later.1 ∙ length-set values v n.0.0)

pub values_take : (words values bytes : List ℕ) (x : List ℕ × List ℕ) (low limit : ℕ) → IsBytes bytes → limit ≤ length values → Rises low limit words → values_at words values bytes ≡ Ok x
    → Takes bytes (flat_map (value_bytes x.0) words) x.1 × AllByRecursion (λ w. get_or x.0 w 0 < 2 ^ 64) words
unfolding values_at
values_take [] values bytes x low limit fits room rises e =
    subst (λ (y : List ℕ × List ℕ). Takes bytes (flat_map (value_bytes y.0) []) y.1 × AllByRecursion (λ w. get_or y.0 w 0 < 2 ^ 64) []) (ok_is (values, bytes) x e) (record { parts = refl; rest_fits = fits }, tt)
values_take (w ∷ words) values bytes x low limit fits room rises e =
    let n = bind_ok (number_at w64 bytes) (λ n. values_at words (slice_set values w n.0) n.1) x e in
    let first = number_takes w64 (2 ^ 64) wide64 bytes n.0.0 n.0.1 fits n.1 in
    let len = length-set values w n.0.0 in
    let second = values_take words (slice_set values w n.0.0) n.0.1 x (w + 1) limit first.0.rest_fits (omega (arith, room, len)) rises.1 n.2 in
    let there : w < length values = omega (arith, room, rises_below (w + 1) limit words rises.1) in
    let kept = values_keep words (slice_set values w n.0.0) n.0.1 x (w + 1) limit w n.2 rises.1 (omega arith) in
    let value : get_or x.0 w 0 ≡ n.0.0 = kept.0 ∙ get_or-set_same values w n.0.0 0 there in
    let mine : Takes bytes (value_bytes x.0 w) n.0.1 = rw value first.0 in
    let both = Takes-then bytes (value_bytes x.0 w) n.0.1 (flat_map (value_bytes x.0) words) x.1 mine second.0 in
    (rw flat_map-cons both, (rw value first.1, second.1))

-- these words take the values that they have in the first list
abbrev pub put : List ℕ → List ℕ → List ℕ → List ℕ
put [] from values = values
put (w ∷ words) from values = put words from (slice_set values w (get_or from w 0))

pub values_again : (words from values rest : List ℕ) → AllByRecursion (λ w. get_or from w 0 < 2 ^ 64) words → values_at words values (flat_map (value_bytes from) words ++ rest) ≡ Ok (put words from values, rest)
unfolding values_at
values_again [] from values rest fits = refl
values_again (w ∷ words) from values rest fits =
    let regrouped : flat_map (value_bytes from) (w ∷ words) ++ rest ≡ value_bytes from w ++ (flat_map (value_bytes from) words ++ rest) = ap (λ (t : List ℕ). t ++ rest) (flat_map-cons (value_bytes from) w words) ∙ append_assoc (value_bytes from w) (flat_map (value_bytes from) words) rest in
    ap (values_at (w ∷ words) values) regrouped
    ∙ ap (λ (r : Field ℕ). r >>= λ n. values_at words (slice_set values w n.0) n.1) (number_again w64 (2 ^ 64) wide64 (get_or from w 0) (flat_map (value_bytes from) words ++ rest) fits.0)
    ∙ values_again words from (slice_set values w (get_or from w 0)) rest fits.1
