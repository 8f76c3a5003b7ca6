-- A processor's own steps and its other ones: either the own step is one of those made already, or both can be made in either order.
use Rattle.std.proofs.Common.{◌≡◌, ◌≢◌, ℕ, zero, suc, ◌<◌, ◌≤◌, Bool, true, false, Option, Some, None, Ok, List, [], ◌∷◌, ◌++◌, length, refl, sym, ap, subst, ◌∙◌, arith, append_assoc, length-append, true≢false}
use Rattle.std.proofs.lemmas.Bool.Decides.{nat_tests}
use Rattle.std.specs.Prelude.{◌&&◌, unwrap_or}
use Rattle.std.specs.List.{list_any}
use Rattle.std.specs.Option.{option_or}
use Rattle.store_buffer.specs.declared.entry.Entry.{Entry}
use Rattle.store_buffer.specs.declared.entry.Entry.TheVariants.{Write, Flush, FlushOpt, Sfence}
use Rattle.store_buffer.specs.Buffers.{forward_of, is_held_by}
use Rattle.persist_buffer.specs.Memories.{coherent}
use Rattle.persist_buffer.specs.State.{Memory}
use Rattle.outcomes.proofs.PartsOfOutcomes.{answer_of}
use Rattle.processor.specs.declared.act.Act.{Act}
use Rattle.processor.specs.declared.act.Act.TheVariants.{Local, Fence, Read, Delay, Locked, Trap}
use Rattle.processor.specs.Acts.{IsShown}
use Rattle.machine.specs.Processors.{contents_of, restart_of, run_by}
use Rattle.machine.specs.State.{Processor}
use Rattle.machine.specs.StepRelations.{DrainSplit}
use Rattle.machine.proofs.ExecShowsAll.{exec_shown}
use Rattle.explore.specs.Own.{Advance, Advances, HasGone, is_before, is_own, leaves, runs}
use Rattle.explore.proofs.QuietRuns.{DoesToo, Fits, appended, does_too}

-- any memory will do where none matters
abbrev pub no_memory : Memory
no_memory = record { pending = []; persisted = [] }

own_fits : (locals : Bool) (shape : List ℕ) (b : List Entry) (m : Memory) (act : Act) → is_own locals act ≡ true → Fits (contents_of shape b m) act
own_fits locals shape b m Local own = tt
own_fits locals shape b m (Delay entry) own = tt
own_fits locals shape b m (Trap address) own = tt
own_fits locals shape b m Fence own = absurd (true≢false (sym own))
own_fits locals shape b m (Read word value) own = absurd (true≢false (sym own))
own_fits locals shape b m (Locked word value written) own = absurd (true≢false (sym own))

-- an own step that runs, where another is made: what it does to the buffer, and that it does so with a shorter one
pub own_run : (locals : Bool) (shape : List ℕ) (c d : Processor) (m n k : Memory) (act : Act) (b : List Entry) → is_own locals act ≡ true → length b ≤ length c.buffer
    → run_by shape c m ≡ Ok (act, (d, n)) → DoesToo shape c d m n act b k
own_run locals shape c d m n k act b own short e = does_too shape c d m n k act b short (own_fits locals shape b k act own) e

same_buffer : (c : Processor) (b : List Entry) → c.buffer ≡ b → record c { buffer = b } ≡ c
same_buffer c b e = λ i. record c { buffer = sym e i }

no_longer : (b : List Entry) → length b ≤ length b
no_longer b = omega arith

-- over any memory
pub own_runs : (locals : Bool) (shape : List ℕ) (c d : Processor) (m n : Memory) (act : Act) → is_own locals act ≡ true → run_by shape c m ≡ Ok (act, (d, n)) → (k : Memory) → run_by shape c k ≡ Ok (act, (d, k))
own_runs locals shape c d m n act own e k =
    let too = own_run locals shape c d m n k act c.buffer own (no_longer c.buffer) e in
    too.ran ∙ ap (λ (x : Processor). Ok (act, (x, k))) (same_buffer d (c.buffer ++ appended act) too.buffer)

pub one_outcome : (shape : List ℕ) (c d e : Processor) (m n o : Memory) (act other : Act) → run_by shape c m ≡ Ok (act, (d, n)) → run_by shape c m ≡ Ok (other, (e, o)) → (other ≡ act) × (e ≡ d)
one_outcome shape c d e m n o act other x y =
    let parts = answer_of act other (d, n) (e, o) (sym x ∙ y) in
    (parts.0, ap (λ (p : Processor × Memory). p.0) parts.1)

-- the oldest entry goes before or after an own run
record BothWays (locals : Bool) (shape : List ℕ) (c d : Processor) (act : Act) (before later : List Entry) : Type 0 where
  buffer : d.buffer ≡ c.buffer ++ appended act
  place : c.place < d.place
  runs_shorter : (m : Memory) → run_by shape (record c { buffer = before ++ later }) m ≡ Ok (act, (record d { buffer = (before ++ later) ++ appended act }, m))

both_ways : (locals : Bool) (shape : List ℕ) (c d : Processor) (act : Act) (before later : List Entry) (entry : Entry) → is_own locals act ≡ true → c.place < d.place → ((m : Memory) → run_by shape c m ≡ Ok (act, (d, m)))
    → c.buffer ≡ before ++ entry ∷ later → BothWays locals shape c d act before later
both_ways locals shape c d act before later entry own rises ran whole =
    let short : length (before ++ later) ≤ length c.buffer = omega (arith, ap length whole, length-append before (entry ∷ later), length-append before later) in
    record {
      buffer = (own_run locals shape c d no_memory no_memory no_memory act (before ++ later) own short (ran no_memory)).buffer;
      place = rises;
      runs_shorter = λ m. (own_run locals shape c d m m m act (before ++ later) own short (ran m)).ran;
    }

further : (locals : Bool) (shape : List ℕ) (c mid d : Processor) → Advance locals shape c mid → HasGone locals shape mid d → HasGone locals shape c d
further locals shape c mid d first (n, rest) = (suc n, (mid, first, rest))

abbrev pub Stays : Bool → List ℕ → Processor → Type 0
Stays locals shape c = (d : Processor) → Advance locals shape c d → ⊥

pub fence_first : (before later after : List Entry) (entry : Entry) → before ++ entry ∷ later ≡ Sfence ∷ after → entry ≢ Sfence → list_any (is_held_by entry) before ≡ false → ⊥
fence_first [] later after entry same other free = other (cc)
fence_first (x ∷ before) later after entry same other free =
    let is : x ≡ Sfence = cc in
    absurd (held entry other (subst (λ (y : Entry). list_any (is_held_by entry) (y ∷ before) ≡ false) is free))
  where
    held : (e : Entry) → e ≢ Sfence → list_any (is_held_by e) (Sfence ∷ before) ≡ false → ⊥
    held (Write word value) other free = true≢false free
    held (Flush line) other free = true≢false free
    held (FlushOpt line) other free = true≢false free
    held Sfence other free = other refl

-- nothing is before an sfence that may leave
pub fence_is_oldest : (before : List Entry) → list_any (is_held_by Sfence) before ≡ false → before ≡ []
fence_is_oldest [] free = refl
fence_is_oldest (Write word value ∷ before) free = absurd (true≢false free)
fence_is_oldest (Flush line ∷ before) free = absurd (true≢false free)
fence_is_oldest (FlushOpt line ∷ before) free = absurd (true≢false free)
fence_is_oldest (Sfence ∷ before) free = absurd (true≢false free)

module _ (locals : Bool) (shape : List ℕ) where
  -- an own run was made already
  pub past_run : (n : ℕ) (c d end : Processor) (act : Act) → is_own locals act ≡ true → c.place < d.place → ((m : Memory) → run_by shape c m ≡ Ok (act, (d, m)))
      → Advances locals shape n c end → Stays locals shape end → HasGone locals shape d end
  past_run zero c d end act own rises ran gone stays = absurd (stays d (subst (λ (x : Processor). Advance locals shape x d) (sym gone) (runs act own rises ran)))
  past_run (suc n) c d end act own rises ran (mid, runs also is rising does, rest) stays =
      let same = one_outcome shape c mid d no_memory no_memory no_memory also act (does no_memory) (ran no_memory) in
      (n, subst (λ (x : Processor). Advances locals shape n x end) (sym same.1) rest)
  past_run (suc n) c d end act own rises ran (mid, leaves later whole is, rest) stays =
      let both = both_ways locals shape c d act [] later Sfence own rises ran whole in
      let next : Processor = record d { buffer = later ++ appended act } in
      further locals shape d next end (leaves (later ++ appended act) (both.buffer ∙ ap (λ (b : List Entry). b ++ appended act) whole) refl)
      (past_run n mid next end act own (subst (λ (x : Processor). x.place < d.place) (sym is) rises)
      (subst (λ (x : Processor). (m : Memory) → run_by shape x m ≡ Ok (act, (next, m))) (sym is) both.runs_shorter) rest stays)

  -- an sfence left already
  pub past_fence : (n : ℕ) (c d end : Processor) (later : List Entry) → c.buffer ≡ Sfence ∷ later → d ≡ record c { buffer = later }
      → Advances locals shape n c end → Stays locals shape end → HasGone locals shape d end
  past_fence zero c d end later whole is gone stays = absurd (stays d (subst (λ (x : Processor). Advance locals shape x d) (sym gone) (leaves later whole is)))
  past_fence (suc n) c d end later whole is (mid, runs act own rises ran, rest) stays =
      let both = both_ways locals shape c mid act [] later Sfence own rises ran whole in
      let next : Processor = record mid { buffer = later ++ appended act } in
      further locals shape d next end (runs act own (subst (λ (x : Processor). x.place < mid.place) (sym is) rises)
      (subst (λ (x : Processor). (m : Memory) → run_by shape x m ≡ Ok (act, (next, m))) (sym is) both.runs_shorter))
      (past_fence n mid next end (later ++ appended act) (both.buffer ∙ ap (λ (b : List Entry). b ++ appended act) whole) refl rest stays)
  past_fence (suc n) c d end later whole is (mid, leaves also holds goes, rest) stays =
      let same : also ≡ later = cc in
      (n, subst (λ (x : Processor). Advances locals shape n x end) (goes ∙ ap (λ (b : List Entry). record c { buffer = b }) same ∙ sym is) rest)

  -- an entry that is no sfence leaves after the own steps, as it did before them
  pub record DrainsAfter (c d end : Processor) (i : ℕ) (entry : Entry) (before : List Entry) : Type 0 where
    pub after : Processor
    pub rest : List Entry
    pub split : DrainSplit i entry end after before rest
    pub gone : HasGone locals shape d after

  pub drains_after : (n : ℕ) (c d end : Processor) (i : ℕ) (entry : Entry) (before later : List Entry) → DrainSplit i entry c d before later → entry ≢ Sfence → Advances locals shape n c end → DrainsAfter c d end i entry before
  drains_after zero c d end i entry before later split other gone = record {
    after = d;
    rest = later;
    split = subst (λ (x : Processor). DrainSplit i entry x d before later) (sym gone) split;
    gone = (zero, refl);
  }
  drains_after (suc n) c d end i entry before later split other (mid, leaves after whole is, rest) = absurd (fence_first before later after entry (sym split.whole ∙ whole) other split.free)
  drains_after (suc n) c d end i entry before later split other (mid, runs act own rises ran, rest) =
      let both = both_ways locals shape c mid act before later entry own rises ran split.whole in
      let next : Processor = record mid { buffer = (before ++ later) ++ appended act } in
      let now : DrainSplit i entry mid next before (later ++ appended act) = record {
        whole = both.buffer ∙ ap (λ (b : List Entry). b ++ appended act) split.whole ∙ append_assoc before (entry ∷ later) (appended act);
        place = split.place;
        free = split.free;
        rest = ap (λ (b : List Entry). record mid { buffer = b }) (append_assoc before later (appended act));
      } in
      let on = drains_after n mid next end i entry before (later ++ appended act) now other rest in record {
        after = on.after;
        rest = on.rest;
        split = on.split;
        gone = further locals shape d next on.after (runs act own (subst (λ (x : Processor). x.place < mid.place) (sym split.rest) rises)
            (subst (λ (x : Processor). (m : Memory) → run_by shape x m ≡ Ok (act, (next, m))) (sym split.rest) both.runs_shorter)) on.gone;
      }

  behind_fence : (later : List Entry) (word : ℕ) → forward_of (Sfence ∷ later) word ≡ forward_of later word
  behind_fence later word = none (forward_of later word)
    where
      none : (o : Option ℕ) → option_or o None ≡ o
      none None = refl
      none (Some value) = refl

  -- what runs behind an sfence waits for no empty buffer, and reads the same without it
  pub fits_behind : (c d : Processor) (m n : Memory) (act : Act) (later : List Entry) → c.buffer ≡ Sfence ∷ later → IsShown act (contents_of shape c.buffer m) (contents_of shape d.buffer n) → Fits (contents_of shape later m) act
  fits_behind c d m n Local later whole shown = tt
  fits_behind c d m n (Delay entry) later whole shown = tt
  fits_behind c d m n (Trap address) later whole shown = tt
  fits_behind c d m n Fence later whole shown = let empty = shown.0 in absurd (cc)
  fits_behind c d m n (Read word value) later whole shown =
      sym (shown.0 ∙ ap (λ (b : List Entry). unwrap_or (forward_of b word) (coherent m word)) whole ∙ ap (λ (o : Option ℕ). unwrap_or o (coherent m word)) (behind_fence later word))
  fits_behind c d m n (Locked word value None) later whole shown = let empty = shown.0 in absurd (cc)
  fits_behind c d m n (Locked word value (Some new)) later whole shown = let empty = shown.0 in absurd (cc)

  -- an instruction that is no own step runs after the own steps, as it did before them
  pub record RunsAfter (c d end : Processor) (m n : Memory) (act : Act) : Type 0 where
    pub after : Processor
    pub ran : run_by shape end m ≡ Ok (act, (after, n))
    pub place : end.place ≡ c.place
    pub gone : HasGone locals shape d after

  pub runs_after : (k : ℕ) (c d end : Processor) (m n : Memory) (act : Act) → run_by shape c m ≡ Ok (act, (d, n)) → (is_own locals act && is_before c.place d.place) ≡ false → Advances locals shape k c end → RunsAfter c d end m n act
  runs_after zero c d end m n act ran foreign gone = record {
    after = d;
    ran = subst (λ (x : Processor). run_by shape x m ≡ Ok (act, (d, n))) (sym gone) ran;
    place = ap (λ (x : Processor). x.place) gone;
    gone = (zero, refl);
  }
  runs_after (suc k) c d end m n act ran foreign (mid, runs also own rises does, rest) =
      let same = one_outcome shape c mid d m m n also act (does m) ran in
      let rising : c.place < d.place = subst (λ (x : Processor). c.place < x.place) (sym same.1) rises in
      let before : is_before c.place d.place ≡ true = grind (arith, nat_tests, rising) in
      absurd (true≢false (sym (ap (λ (a : Act). is_own locals a && is_before c.place d.place) same.0 ∙ rw (own, before) refl) ∙ foreign))
  runs_after (suc k) c d end m n act ran foreign (mid, leaves later whole is, rest) =
      let short : length later ≤ length c.buffer = omega (arith, ap length whole) in
      let too = does_too shape c d m n m act later short (fits_behind c d m n act later whole (exec_shown shape c d m n act ran)) ran in
      let next : Processor = record d { buffer = later ++ appended act } in
      let ran_mid : run_by shape mid m ≡ Ok (act, (next, n)) = ap (λ (x : Processor). run_by shape x m) is ∙ too.ran ∙ ap (λ (x : Memory). Ok (act, (next, x))) (sym too.memory) in
      let at : mid.place ≡ c.place = ap (λ (x : Processor). x.place) is in
      let on = runs_after k mid next end m n act ran_mid (ap (λ (place : ℕ). is_own locals act && is_before place d.place) at ∙ foreign) rest in record {
        after = on.after;
        ran = on.ran;
        place = on.place ∙ at;
        gone = further locals shape d next on.after (leaves (later ++ appended act) (too.buffer ∙ ap (λ (b : List Entry). b ++ appended act) whole) refl) on.gone;
      }

  -- ---- a crash forgets the own steps

  restarts_one : (c d : Processor) → Advance locals shape c d → restart_of d ≡ restart_of c
  restarts_one c d (runs act own rises ran) =
      let too = own_run locals shape c d no_memory no_memory no_memory act c.buffer own (no_longer c.buffer) (ran no_memory) in
      λ i. restart_of (record c { main = too.main i; recovery = too.recovery i })
  restarts_one c d (leaves later whole is) = ap restart_of is

  pub restarts : (n : ℕ) (c d : Processor) → Advances locals shape n c d → restart_of d ≡ restart_of c
  restarts zero c d gone = ap restart_of gone
  restarts (suc n) c d (mid, first, rest) = restarts n mid d rest ∙ restarts_one c mid first

  -- ---- registers, where local steps do not count

  pub join_gone : (n : ℕ) (c d e : Processor) → Advances locals shape n c d → HasGone locals shape d e → HasGone locals shape c e
  join_gone zero c d e gone more = subst (λ (x : Processor). HasGone locals shape x e) gone more
  join_gone (suc n) c d e (mid, first, rest) more = further locals shape c mid e first (join_gone n mid d e rest more)
