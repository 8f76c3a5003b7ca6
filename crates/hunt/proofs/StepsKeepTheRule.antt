-- Each step keeps the rule.
use Rattle.std.proofs.Common.{◌≡◌, ◌≢◌, ℕ, ◌+◌, ◌%◌, ◌^◌, ◌<◌, ◌≤◌, ◌⊎◌, min, List, [], ◌∷◌, ◌++◌, set, get_or, sym, refl, ap, ◌∙◌, subst, inl, inr, ⊎_elim, arith}
use mathlib.Core.Option.{some, none, some-injective}
use native.Mathlib.Decide.{dec_le, ℕ_discrete}
use lib.ListN.{get_elem?}
use Rattle.atomic_table.specs.Table.{State, Me, step, stepped, keeps, Valid, Allows, Splits, Joins, opening, carried_after}
use Rattle.hunt.specs.declared.rule.SeatView.{SeatView}
use Rattle.hunt.specs.Counts.{one, times, Has, beyond, IsRising}
use Rattle.hunt.specs.Rule.{seat_view, no_report, total, claims_of, reports_of, IsView, IsBoard}
use Rattle.hunt.specs.Plays.{Place, fresh, spent, cut, joined, after_claim, after_look, after_report, Settled, Claims, Looks, Reports, Settles}
use Rattle.atomic_table.proofs.Lists.{set_again, at_set}
use Rattle.hunt.proofs.SumsOverSeats.{total_some, one-same, one-other, times-append, times-snoc, has_snoc, has_append, has_left, has_right, beyond-append, beyond-low, beyond-high, rising_snoc, total_set, total_snoc, part_of_total, total_mono, total_whole, each_set, each_snoc}

abbrev S : Type 0
S = State (Unit {0}) SeatView

-- a view fits as before where the least word sinks only to what it may, and reports only grow
fits_on : (n least least' : ℕ) (views views' : List SeatView) (v : SeatView) → least' ≤ least → ((x : ℕ) → 0 < reports_of x views → 0 < reports_of x views') → IsView n least views v → IsView n least' views' v
fits_on n least least' views views' v low more f = record {
  limit = f.limit;
  spent = f.spent;
  rising = f.rising;
  ends = f.ends;
  own = f.own;
  under_bounds = λ x h. let a = f.under_bounds x h in omega arith;
  under_reports = λ x h. let a = f.under_reports x h in omega arith;
  bounds = λ x h. ⊎_elim (λ e. inl e) (λ p. inr (more x p)) (f.bounds x h);
}

pub opens : (n seats : ℕ) → IsBoard n seats (opening (0 ∷ no_report ∷ []) [] (seat_view n seats [] [] []))
opens n seats = record {
  count = 0;
  least = no_report;
  words = refl;
  parts = omega arith;
  handed = λ x h. absurd (omega arith);
  ahead = λ x h. refl;
  room = omega arith;
  least_is = inl refl;
  each = each_snoc (IsView n no_report (seat_view n seats [] [] [] ∷ [])) [] (seat_view n seats [] [] []) record {
    limit = λ h. refl;
    spent = λ h. (refl, refl, refl);
    rising = λ h. tt;
    ends = omega arith;
    own = λ x h. absurd (omega arith);
    under_bounds = λ x h. absurd (omega arith);
    under_reports = λ x h. absurd (omega arith);
    bounds = λ x h. absurd (omega arith);
  } (λ j u e. absurd (mathlib.Core.Option.some-ne-none u (sym e)));
}

same_word : (ws : List ℕ) (count least : ℕ) → ws ≡ count ∷ least ∷ [] → get_or ws 0 0 ≡ count
same_word ws count least e = ap (λ (l : List ℕ). get_or l 0 0) e

same_least : (ws : List ℕ) (count least : ℕ) → ws ≡ count ∷ least ∷ [] → get_or ws 1 0 ≡ least
same_least ws count least e = ap (λ (l : List ℕ). get_or l 1 0) e

-- where one view's list takes one number more, so does the total
taken : (f : SeatView → ℕ) (views : List SeatView) (id : ℕ) (v w : SeatView) (k : ℕ) → get_elem? views id ≡ some v → f w ≡ f v + k → total f (set views id w) ≡ total f views + k
taken f views id v w k at more = let a = total_set f views id v w at in omega arith

-- the claim word does not wrap
no_wrap : (n seats : ℕ) (s : S) (r : IsBoard n seats s) → n ≤ 4294967296 → seats ≤ 64 → r.count ≤ 4294967360
no_wrap n seats s r hn hs =
    let a = total_mono (λ v. beyond n v.claimed) (λ v. v.parts) s.views (λ j u e. (r.each j u e).ends) in
    let p = r.parts in let q = r.room in omega arith

pub claims : (n seats slots id : ℕ) (me : Place) → n ≤ 4294967296 → seats ≤ 64 → me.0.parts ≡ 1 → beyond me.0.limit me.0.claimed ≡ 0
    → Allows (IsBoard n seats) slots id me 0 (λ x. (x + 1) % 2 ^ 64) (Claims (step slots 0 1 0 none) me)
claims n seats slots id me hn hs one_part none_over s r _ at _ =
    let v : SeatView = me.0 in let views : List SeatView = s.views in let c : ℕ = r.count in
    let fits : IsView n r.least views v = r.each id v at in
    let is_n : v.limit ≡ n = fits.limit (omega arith) in
    let unended : beyond n v.claimed ≡ 0 = subst (λ (k : ℕ). beyond k v.claimed ≡ 0) is_n none_over in
    let below : (y : ℕ) → Has v.claimed y → y < c = λ y h. elim (dec_le c y) [ yes le ↦ absurd (let a = r.ahead y le in let b = part_of_total (λ u. times y u.claimed) views id v at in omega arith) | no lt ↦ omega arith ] in
    let w : SeatView = after_claim v c in let views' : List SeatView = set views id w in
    let P : ℕ → Type 0 = λ x. (u : SeatView) × (a : Rattle.atomic_table.specs.Table.Act (Unit {0})) × Valid s.homes me.1 a × IsBoard n seats (stepped s 0 ((x + 1) % 2 ^ 64) id me.1 u a) × Claims (step slots 0 1 0 none) me x (u, carried_after me.1 a) in
    let small = no_wrap n seats s r hn hs in
    let next : (c + 1) % 2 ^ 64 ≡ c + 1 = omega arith in
    let claims' : (x : ℕ) → claims_of x views' ≡ claims_of x views + one x c = λ x. taken (λ u. times x u.claimed) views id v w (one x c) at (times-snoc x c v.claimed) in
    let reports' : (x : ℕ) → reports_of x views' ≡ reports_of x views = λ x. let a = taken (λ u. times x u.reported) views id v w 0 at (omega arith) in omega arith in
    let more : (x : ℕ) → 0 < reports_of x views → 0 < reports_of x views' = λ x h. let a = reports' x in omega arith in
    let kept : IsBoard n seats (stepped s 0 (c + 1) id me.1 w keeps) = record {
      count = c + 1;
      least = r.least;
      words = ap (λ (l : List ℕ). set l 0 (c + 1)) r.words;
      parts = let a = taken (λ u. u.parts) views id v w 0 at (omega arith) in let p = r.parts in omega arith;
      handed = λ x h. elim (ℕ_discrete x c) [
        | yes e ↦ let a = claims' x in let b = one-same x c e in let d = r.ahead x (omega arith) in omega arith
        | no ne ↦ let a = claims' x in let b = one-other x c ne in let d = r.handed x (omega arith) in omega arith
      ];
      ahead = λ x h. let a = claims' x in let b = one-other x c (λ e. omega arith) in let d = r.ahead x (omega arith) in omega arith;
      room = elim (dec_le n c) [
        | yes le ↦ let a = taken (λ u. beyond n u.claimed) views id v w 1 at (beyond-high n c v.claimed le) in let b = r.room in omega arith
        | no lt ↦ omega arith
      ];
      least_is = ⊎_elim (λ e. inl e) (λ p. inr (more r.least p)) r.least_is;
      each = each_set (IsView n r.least views') views id w record {
        limit = λ h. is_n;
        spent = λ z. absurd (omega arith);
        rising = λ h. rising_snoc c v.claimed (fits.rising (omega arith)) below;
        ends = elim (dec_le n c) [ yes le ↦ let a = beyond-high n c v.claimed le in omega arith | no lt ↦ let a = beyond-low n c v.claimed (omega arith) in omega arith ];
        own = λ x h. let o = fits.own x h in (o.0, has_left x v.claimed (c ∷ []) o.1);
        under_bounds = fits.under_bounds;
        under_reports = fits.under_reports;
        bounds = λ x h. ⊎_elim (λ e. inl e) (λ p. inr (more x p)) (fits.bounds x h);
      } (λ j u e. fits_on n r.least r.least views views' u (omega arith) more (r.each j u e));
    } in
    subst P (sym (same_word s.words c r.least r.words)) (w, keeps, tt, subst (λ (k : ℕ). IsBoard n seats (stepped s 0 k id me.1 w keeps)) (sym next) kept, (refl, below))

-- a number that was reported is below the limit
reported_low : (n least : ℕ) (views : List SeatView) → ((j : ℕ) (u : SeatView) → get_elem? views j ≡ some u → (x : ℕ) → Has u.reported x → (x < n) × Has u.claimed x) → (x : ℕ) → 0 < reports_of x views → x < n
reported_low n least views own x h = let t = total_some (λ u. times x u.reported) views h in (own t.0 t.1 t.2 x t.3).0

pub looks : (n seats slots id : ℕ) (me : Place) → n ≤ 4294967296 → me.0.parts ≡ 1 → Allows (IsBoard n seats) slots id me 1 (λ x. x) (Looks (step slots 1 0 0 none) me)
looks n seats slots id me hn one_part s r _ at _ =
    let v : SeatView = me.0 in let views : List SeatView = s.views in let l : ℕ = r.least in
    let fits : IsView n l views v = r.each id v at in
    let is_n : v.limit ≡ n = fits.limit (omega arith) in
    let w : SeatView = after_look v l in let views' : List SeatView = set views id w in
    let P : ℕ → Type 0 = λ x. (u : SeatView) × (a : Rattle.atomic_table.specs.Table.Act (Unit {0})) × Valid s.homes me.1 a × IsBoard n seats (stepped s 1 x id me.1 u a) × Looks (step slots 1 0 0 none) me x (u, carried_after me.1 a) in
    let claims' : (x : ℕ) → claims_of x views' ≡ claims_of x views = λ x. let a = taken (λ u. times x u.claimed) views id v w 0 at (omega arith) in omega arith in
    let reports' : (x : ℕ) → reports_of x views' ≡ reports_of x views = λ x. let a = taken (λ u. times x u.reported) views id v w 0 at (omega arith) in omega arith in
    let more : (x : ℕ) → 0 < reports_of x views → 0 < reports_of x views' = λ x h. let a = reports' x in omega arith in
    let least_is' : (l ≡ no_report) ⊎ (0 < reports_of l views') = ⊎_elim (λ e. inl e) (λ p. inr (more l p)) r.least_is in
    let kept : IsBoard n seats (stepped s 1 l id me.1 w keeps) = record {
      count = r.count;
      least = l;
      words = ap (λ (z : List ℕ). set z 1 l) r.words;
      parts = let a = taken (λ u. u.parts) views id v w 0 at (omega arith) in let p = r.parts in omega arith;
      handed = λ x h. claims' x ∙ r.handed x h;
      ahead = λ x h. claims' x ∙ r.ahead x h;
      room = let a = taken (λ u. beyond n u.claimed) views id v w 0 at (omega arith) in let b = r.room in omega arith;
      least_is = least_is';
      each = each_set (IsView n l views') views id w record {
        limit = λ h. is_n;
        spent = λ z. absurd (omega arith);
        rising = fits.rising;
        ends = fits.ends;
        own = fits.own;
        under_bounds = λ x h. ⊎_elim (fits.under_bounds x) (λ (e : x ≡ l). omega arith) (has_snoc x l v.bounds h);
        under_reports = fits.under_reports;
        bounds = λ x h. ⊎_elim (λ b. ⊎_elim (λ e. inl e) (λ p. inr (more x p)) (fits.bounds x b)) (λ (e : x ≡ l). ⊎_elim (λ (q : l ≡ no_report). inl (e ∙ q)) (λ p. inr (subst (λ (k : ℕ). 0 < reports_of k views') (sym e) p)) least_is') (has_snoc x l v.bounds h);
      } (λ j u e. fits_on n l l views views' u (omega arith) more (r.each j u e));
    } in
    let low : (l ≡ no_report) ⊎ (l < v.limit) = ⊎_elim (λ e. inl e) (λ p. inr (let o = reported_low n l s.views (λ j u e. (r.each j u e).own) l p in omega arith)) r.least_is in
    subst P (sym (same_least s.words r.count l r.words)) (w, keeps, tt, kept, (refl, (fits.under_bounds, fits.under_reports), low))

pub reports : (n seats slots id number : ℕ) (me : Place) → me.0.parts ≡ 1 → number < n → Has me.0.claimed number → Allows (IsBoard n seats) slots id me 1 (λ x. min x number) (Reports (step slots 1 number 0 none) me)
reports n seats slots id number me one_part low drawn s r _ at _ =
    let v : SeatView = me.0 in let views : List SeatView = s.views in let l : ℕ = r.least in let m : ℕ = min l number in
    let fits : IsView n l views v = r.each id v at in
    let is_n : v.limit ≡ n = fits.limit (omega arith) in
    let w : SeatView = after_report v number in let views' : List SeatView = set views id w in
    let P : ℕ → Type 0 = λ x. (u : SeatView) × (a : Rattle.atomic_table.specs.Table.Act (Unit {0})) × Valid s.homes me.1 a × IsBoard n seats (stepped s 1 (min x number) id me.1 u a) × Reports (step slots 1 number 0 none) me x (u, carried_after me.1 a) in
    let claims' : (x : ℕ) → claims_of x views' ≡ claims_of x views = λ x. let a = taken (λ u. times x u.claimed) views id v w 0 at (omega arith) in omega arith in
    let reports' : (x : ℕ) → reports_of x views' ≡ reports_of x views + one x number = λ x. taken (λ u. times x u.reported) views id v w (one x number) at (times-snoc x number v.reported) in
    let more : (x : ℕ) → 0 < reports_of x views → 0 < reports_of x views' = λ x h. let a = reports' x in omega arith in
    let kept : IsBoard n seats (stepped s 1 m id me.1 w keeps) = record {
      count = r.count;
      least = m;
      words = ap (λ (z : List ℕ). set z 1 m) r.words;
      parts = let a = taken (λ u. u.parts) views id v w 0 at (omega arith) in let p = r.parts in omega arith;
      handed = λ x h. claims' x ∙ r.handed x h;
      ahead = λ x h. claims' x ∙ r.ahead x h;
      room = let a = taken (λ u. beyond n u.claimed) views id v w 0 at (omega arith) in let b = r.room in omega arith;
      least_is = elim (dec_le number l) [
        | yes le ↦ let e : m ≡ number = omega arith in inr (let a = reports' m in let b = one-same m number e in omega arith)
        | no gt ↦ let e : m ≡ l = omega arith in ⊎_elim (λ (q : l ≡ no_report). inl (e ∙ q)) (λ p. inr (subst (λ (k : ℕ). 0 < reports_of k views') (sym e) (more l p))) r.least_is
      ];
      each = each_set (IsView n m views') views id w record {
        limit = λ h. is_n;
        spent = λ z. absurd (omega arith);
        rising = fits.rising;
        ends = fits.ends;
        own = λ x h. ⊎_elim (fits.own x) (λ (e : x ≡ number). subst (λ (k : ℕ). (k < n) × Has v.claimed k) (sym e) (low, drawn)) (has_snoc x number v.reported h);
        under_bounds = λ x h. let a = fits.under_bounds x h in omega arith;
        under_reports = λ x h. ⊎_elim (λ b. let a = fits.under_reports x b in omega arith) (λ (e : x ≡ number). omega arith) (has_snoc x number v.reported h);
        bounds = λ x h. ⊎_elim (λ e. inl e) (λ p. inr (more x p)) (fits.bounds x h);
      } (λ j u e. fits_on n l m views views' u (omega arith) more (r.each j u e));
    } in
    subst P (sym (same_least s.words r.count l r.words)) (w, keeps, tt, kept, refl)

-- the board's whole story is the story of a seat that has every part
settled : (n seats : ℕ) (s : S) (id : ℕ) (v : SeatView) → (r : IsBoard n seats s) → get_elem? s.views id ≡ some v → 0 < v.parts → v.parts ≡ seats → Settled v r.count r.least
settled n seats s id v r at some_part all =
    let fits : IsView n r.least s.views v = r.each id v at in
    let is_n : v.limit ≡ n = fits.limit some_part in
    let whole : total (λ u. u.parts) s.views ≡ v.parts = r.parts ∙ sym all in
    let claims' : (x : ℕ) → claims_of x s.views ≡ times x v.claimed = λ x. total_whole (λ u. times x u.claimed) (λ u. u.parts) s.views id v at whole (λ j u e z. ap (times x) ((r.each j u e).spent z).0) in
    let reports' : (x : ℕ) → reports_of x s.views ≡ times x v.reported = λ x. total_whole (λ u. times x u.reported) (λ u. u.parts) s.views id v at whole (λ j u e z. ap (times x) ((r.each j u e).spent z).2) in
    let shown : (x : ℕ) → 0 < reports_of x s.views → Has v.reported x = λ x h. let a = reports' x in omega arith in
    record {
      handed = λ x h. sym (claims' x) ∙ r.handed x h;
      ahead = λ x h. sym (claims' x) ∙ r.ahead x h;
      least_is = ⊎_elim (λ e. inl e) (λ p. inr (shown r.least p)) r.least_is;
      low = (fits.under_bounds, fits.under_reports);
      own = λ x h. let o = fits.own x h in (subst (λ (k : ℕ). x < k) (sym is_n) o.0, o.1);
      bounds = λ x h. ⊎_elim (λ e. inl e) (λ p. inr (shown x p)) (fits.bounds x h);
    }

pub settles : (n seats slots id : ℕ) (me : Place) → 0 < me.0.parts → me.0.parts ≡ seats → Allows (IsBoard n seats) slots id me 1 (λ x. x) (Settles (step slots 1 0 0 none) me)
settles n seats slots id me some_part all s r _ at _ =
    let l : ℕ = r.least in let v : SeatView = me.0 in
    let P : ℕ → Type 0 = λ x. (u : SeatView) × (a : Rattle.atomic_table.specs.Table.Act (Unit {0})) × Valid s.homes me.1 a × IsBoard n seats (stepped s 1 x id me.1 u a) × Settles (step slots 1 0 0 none) me x (u, carried_after me.1 a) in
    let kept : IsBoard n seats (stepped s 1 l id me.1 v keeps) = subst (λ (z : List ℕ × List SeatView). IsBoard n seats record { words = z.0; homes = s.homes; views = z.1 })
    (λ i. (sym (ap (λ (z : List ℕ). set z 1 l) r.words ∙ sym r.words) i, sym (set_again s.views id v at) i)) record r { count = r.count } in
    subst P (sym (same_least s.words r.count l r.words)) (v, keeps, tt, kept, (refl, (r.count, settled n seats s id v r at some_part all)))

-- a seat with several parts, which has made no call, gives one of them to a new seat
pub splits : (n seats id : ℕ) (v : SeatView) → 1 < v.parts → v.claimed ≡ [] → v.bounds ≡ [] → v.reported ≡ [] → Splits (IsBoard n seats) id v (cut v) (fresh v.limit)
splits n seats id v parts no_claim no_bound no_report' s r at =
    let views : List SeatView = s.views in let l : ℕ = r.least in
    let fits : IsView n l views v = r.each id v at in
    let w : SeatView = cut v in let f : SeatView = fresh v.limit in let views' : List SeatView = set views id w ++ f ∷ [] in
    let sum : (g : SeatView → ℕ) → total g views' + g v ≡ total g views + g w + g f = λ g. let a = total_snoc g (set views id w) f in let b = total_set g views id v w at in omega arith in
    let reports' : (x : ℕ) → reports_of x views' ≡ reports_of x views = λ x. let a = sum (λ u. times x u.reported) in omega arith in
    let more : (x : ℕ) → 0 < reports_of x views → 0 < reports_of x views' = λ x h. let a = reports' x in omega arith in
    record {
      count = r.count;
      least = l;
      words = r.words;
      parts = let a = sum (λ u. u.parts) in let p = r.parts in omega arith;
      handed = λ x h. let a = sum (λ u. times x u.claimed) in let b = r.handed x h in omega arith;
      ahead = λ x h. let a = sum (λ u. times x u.claimed) in let b = r.ahead x h in omega arith;
      room = let a = sum (λ u. beyond n u.claimed) in let b = r.room in omega arith;
      least_is = ⊎_elim (λ e. inl e) (λ p. inr (more l p)) r.least_is;
      each = each_snoc (IsView n l views') (set views id w) f record {
        limit = λ h. fits.limit (omega arith);
        spent = λ z. absurd (omega arith);
        rising = λ h. tt;
        ends = omega arith;
        own = λ x h. absurd (omega arith);
        under_bounds = λ x h. absurd (omega arith);
        under_reports = λ x h. absurd (omega arith);
        bounds = λ x h. absurd (omega arith);
      } (each_set (IsView n l views') views id w record {
        limit = λ h. fits.limit (omega arith);
        spent = λ z. absurd (omega arith);
        rising = λ h. subst IsRising (sym no_claim) tt;
        ends = let a : beyond n v.claimed ≡ 0 = ap (beyond n) no_claim in omega arith;
        own = fits.own;
        under_bounds = fits.under_bounds;
        under_reports = fits.under_reports;
        bounds = λ x h. ⊎_elim (λ e. inl e) (λ p. inr (more x p)) (fits.bounds x h);
      } (λ j u e. fits_on n l l views views' u (omega arith) more (r.each j u e)));
    }

-- a seat takes in what another knows
pub joins : (n seats id : ℕ) (v : SeatView) (other : ℕ) (u : SeatView) → 0 < v.parts → 0 < u.parts → Joins (IsBoard n seats) id v other u (joined v u) spent
joins n seats id v other u some_part its_part s r at apart there =
    let views : List SeatView = s.views in let l : ℕ = r.least in
    let both : SeatView = joined v u in let one_set : List SeatView = set views id both in let views' : List SeatView = set one_set other spent in
    let was : get_elem? views other ≡ some u = ⊎_elim (λ (t : (other ≡ id) × (both ≡ u)). absurd (apart t.0)) (λ (t : (other ≢ id) × (get_elem? views other ≡ some u)). t.1) (at_set views id other both u there) in
    let fits : IsView n l views v = r.each id v at in let its : IsView n l views u = r.each other u was in
    let sum : (g : SeatView → ℕ) → total g views' + g u + g v ≡ total g views + g both + g spent = λ g. let a = total_set g one_set other u spent there in let b = total_set g views id v both at in omega arith in
    let claims' : (x : ℕ) → claims_of x views' ≡ claims_of x views = λ x. let a = sum (λ y. times x y.claimed) in let b = times-append x v.claimed u.claimed in omega arith in
    let reports' : (x : ℕ) → reports_of x views' ≡ reports_of x views = λ x. let a = sum (λ y. times x y.reported) in let b = times-append x v.reported u.reported in omega arith in
    let more : (x : ℕ) → 0 < reports_of x views → 0 < reports_of x views' = λ x h. let a = reports' x in omega arith in
    let old : (j : ℕ) (y : SeatView) → get_elem? views j ≡ some y → IsView n l views' y = λ j y e. fits_on n l l views views' y (omega arith) more (r.each j y e) in
    let b : (x : ℕ) → (x ≡ no_report) ⊎ (0 < reports_of x views) → (x ≡ no_report) ⊎ (0 < reports_of x views') = λ x h. ⊎_elim (λ e. inl e) (λ p. inr (more x p)) h in
    record {
      count = r.count;
      least = l;
      words = r.words;
      parts = let a = sum (λ y. y.parts) in let p = r.parts in omega arith;
      handed = λ x h. claims' x ∙ r.handed x h;
      ahead = λ x h. claims' x ∙ r.ahead x h;
      room = let a = sum (λ y. beyond n y.claimed) in let c = beyond-append n v.claimed u.claimed in let d = r.room in omega arith;
      least_is = ⊎_elim (λ e. inl e) (λ p. inr (more l p)) r.least_is;
      each = each_set (IsView n l views') one_set other spent record {
        limit = λ h. absurd (omega arith);
        spent = λ z. (refl, refl, refl);
        rising = λ h. tt;
        ends = omega arith;
        own = λ x h. absurd (omega arith);
        under_bounds = λ x h. absurd (omega arith);
        under_reports = λ x h. absurd (omega arith);
        bounds = λ x h. absurd (omega arith);
      } (each_set (IsView n l views') views id both record {
        limit = λ h. fits.limit some_part;
        spent = λ z. absurd (omega arith);
        rising = λ h. absurd (omega arith);
        ends = let c = beyond-append n v.claimed u.claimed in let d = fits.ends in let e = its.ends in omega arith;
        own = λ x h. ⊎_elim (λ m. let o = fits.own x m in (o.0, has_left x v.claimed u.claimed o.1)) (λ m. let o = its.own x m in (o.0, has_right x v.claimed u.claimed o.1)) (has_append x v.reported u.reported h);
        under_bounds = λ x h. ⊎_elim (fits.under_bounds x) (its.under_bounds x) (has_append x v.bounds u.bounds h);
        under_reports = λ x h. ⊎_elim (fits.under_reports x) (its.under_reports x) (has_append x v.reported u.reported h);
        bounds = λ x h. b x (⊎_elim (fits.bounds x) (its.bounds x) (has_append x v.bounds u.bounds h));
      } old);
    }
