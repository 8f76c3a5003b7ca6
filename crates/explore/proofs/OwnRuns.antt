-- What runs after any own steps of a processor, and that the same is known of it before a step and after it.
use Rattle.std.proofs.Common.{◌≡◌, ◌≢◌, ℕ, zero, suc, ◌<◌, ◌≤◌, Bool, true, false, Ok, List, ◌∷◌, ◌++◌, length, refl, sym, ap, subst, ◌∙◌, arith, append_assoc, length-append, true≢false}
use Rattle.std.proofs.lemmas.Bool.Decides.{nat_tests}
use Rattle.std.specs.Prelude.{◌&&◌}
use Rattle.store_buffer.specs.declared.entry.Entry.{Entry}
use Rattle.store_buffer.specs.declared.entry.Entry.TheVariants.{Sfence}
use Rattle.persist_buffer.specs.State.{Memory}
use Rattle.processor.specs.declared.act.Act.{Act}
use Rattle.machine.specs.Processors.{run_by}
use Rattle.machine.specs.State.{Processor}
use Rattle.machine.specs.StepRelations.{DrainSplit}
use Rattle.machine.proofs.ExecShowsAll.{exec_shown}
use Rattle.explore.specs.Own.{Advance, Advances, is_before, is_own, leaves, runs}
use Rattle.explore.proofs.OwnSteps.{Stays, fence_first, fits_behind, no_memory, one_outcome, own_run}
use Rattle.explore.proofs.QuietRuns.{appended, does_too}

-- An own step that runs an instruction, over any memory.
pub record OwnRun (locals : Bool) (shape : List ℕ) (c d : Processor) : Type 0 where
  pub act : Act
  pub own : is_own locals act ≡ true
  pub rises : c.place < d.place
  pub ran : (m : Memory) → run_by shape c m ≡ Ok (act, (d, m))

-- Whatever own step runs after any own steps of a processor, this is known of its program and place.
abbrev pub IsTold : Bool → List ℕ → (Bool → ℕ → Type 0) → Processor → Type 0
IsTold locals shape told c = (n : ℕ) (d e : Processor) → Advances locals shape n c d → OwnRun locals shape d e → told d.recovering d.place

module _ (locals : Bool) (shape : List ℕ) where
  pub run_advances : (c d : Processor) → OwnRun locals shape c d → Advance locals shape c d
  run_advances c d x = runs x.act x.own x.rises x.ran

  -- it runs with a shorter buffer too
  shorter_run : (c d : Processor) (b : List Entry) (x : OwnRun locals shape c d) → length b ≤ length c.buffer
      → OwnRun locals shape (record c { buffer = b }) (record d { buffer = b ++ appended x.act })
  shorter_run c d b x short = record {
    act = x.act;
    own = x.own;
    rises = x.rises;
    ran = λ m. (own_run locals shape c d m m m x.act b x.own short (x.ran m)).ran;
  }

  no_longer : (b : List Entry) → length b ≤ length b
  no_longer b = omega arith

  run_appends : (c d : Processor) (x : OwnRun locals shape c d) → d.buffer ≡ c.buffer ++ appended x.act
  run_appends c d x = (own_run locals shape c d no_memory no_memory no_memory x.act c.buffer x.own (no_longer c.buffer) (x.ran no_memory)).buffer

  -- an sfence that is oldest is so after an own run
  fence_stays : (c d : Processor) (later : List Entry) (x : OwnRun locals shape c d) → c.buffer ≡ Sfence ∷ later → d.buffer ≡ Sfence ∷ (later ++ appended x.act)
  fence_stays c d later x whole = run_appends c d x ∙ ap (λ (b : List Entry). b ++ appended x.act) whole

  behind_is_shorter : (c : Processor) (later : List Entry) → c.buffer ≡ Sfence ∷ later → length later ≤ length c.buffer
  behind_is_shorter c later whole = omega (arith, ap length whole)

module _ (locals : Bool) (shape : List ℕ) (told : Bool → ℕ → Type 0) where
  -- after an own step
  pub told_after : (c d : Processor) → Advance locals shape c d → IsTold locals shape told c → IsTold locals shape told d
  told_after c d first all n e f gone run = all (suc n) e f (d, first, gone) run

  -- where no own step can be made, nothing runs
  pub told_of_none : (c : Processor) → Stays locals shape c → IsTold locals shape told c
  told_of_none c stays zero d e gone run = absurd (stays e (subst (λ (x : Processor). Advance locals shape x e) gone (run_advances locals shape d e run)))
  told_of_none c stays (suc n) d e (mid, first, rest) run = absurd (stays mid first)

  behind_fence : (n : ℕ) (c e f : Processor) (later : List Entry) → c.buffer ≡ Sfence ∷ later → IsTold locals shape told (record c { buffer = later })
      → Advances locals shape n c e → OwnRun locals shape e f → told e.recovering e.place
  behind_fence zero c e f later whole all gone run =
      let here : OwnRun locals shape c f = subst (λ (x : Processor). OwnRun locals shape x f) gone run in
      subst (λ (x : Processor). told x.recovering x.place) (sym gone)
      (all zero (record c { buffer = later }) (record f { buffer = later ++ appended here.act }) refl (shorter_run locals shape c f later here (behind_is_shorter locals shape c later whole)))
  behind_fence (suc n) c e f later whole all (mid, runs act own rises ran, rest) run =
      let x : OwnRun locals shape c mid = record { act = act; own = own; rises = rises; ran = ran } in
      let next : Processor = record mid { buffer = later ++ appended act } in
      let first = run_advances locals shape (record c { buffer = later }) next (shorter_run locals shape c mid later x (behind_is_shorter locals shape c later whole)) in
      behind_fence n mid e f (later ++ appended act) (fence_stays locals shape c mid later x whole) (told_after (record c { buffer = later }) next first all) rest run
  behind_fence (suc n) c e f later whole all (mid, leaves also holds goes, rest) run =
      let same : also ≡ later = cc in
      all n e f (subst (λ (x : Processor). Advances locals shape n x e) (goes ∙ ap (λ (b : List Entry). record c { buffer = b }) same) rest) run

  -- before an sfence leaves
  pub told_before_fence : (c d : Processor) (later : List Entry) → c.buffer ≡ Sfence ∷ later → d ≡ record c { buffer = later } → IsTold locals shape told d → IsTold locals shape told c
  told_before_fence c d later whole is all n e f gone run = behind_fence n c e f later whole (subst (λ (x : Processor). IsTold locals shape told x) is all) gone run

  behind_run : (n : ℕ) (c d e f : Processor) → OwnRun locals shape c d → told c.recovering c.place → IsTold locals shape told d
      → Advances locals shape n c e → OwnRun locals shape e f → told e.recovering e.place
  behind_run zero c d e f x here all gone run = subst (λ (y : Processor). told y.recovering y.place) (sym gone) here
  behind_run (suc n) c d e f x here all (mid, runs act own rises ran, rest) run =
      let same = one_outcome shape c mid d no_memory no_memory no_memory act x.act (ran no_memory) (x.ran no_memory) in
      all n e f (subst (λ (y : Processor). Advances locals shape n y e) (sym same.1) rest) run
  behind_run (suc n) c d e f x here all (mid, leaves later whole is, rest) run =
      let next : Processor = record d { buffer = later ++ appended x.act } in
      let first : Advance locals shape d next = leaves (later ++ appended x.act) (fence_stays locals shape c d later x whole) refl in
      let shorter = shorter_run locals shape c d later x (behind_is_shorter locals shape c later whole) in
      behind_run n mid next e f (subst (λ (y : Processor). OwnRun locals shape y next) (sym is) shorter)
      (subst (λ (y : Processor). told y.recovering y.place) (sym is) here) (told_after d next first all) rest run

  -- before an own run of which it is known
  pub told_before_run : (c d : Processor) → OwnRun locals shape c d → told c.recovering c.place → IsTold locals shape told d → IsTold locals shape told c
  told_before_run c d x here all n e f gone run = behind_run n c d e f x here all gone run

  -- An entry that is no sfence leaves after the own steps, as it did before them. What is known after both is known after the entry left.
  pub record DrainsTold (d end : Processor) (i : ℕ) (entry : Entry) (before : List Entry) : Type 0 where
    pub after : Processor
    pub rest : List Entry
    pub split : DrainSplit i entry end after before rest
    pub back : IsTold locals shape told after → IsTold locals shape told d

  pub drains_told : (n : ℕ) (c d end : Processor) (i : ℕ) (entry : Entry) (before later : List Entry) → DrainSplit i entry c d before later → entry ≢ Sfence → IsTold locals shape told c
      → Advances locals shape n c end → DrainsTold d end i entry before
  drains_told zero c d end i entry before later split other all gone = record {
    after = d;
    rest = later;
    split = subst (λ (x : Processor). DrainSplit i entry x d before later) (sym gone) split;
    back = λ known. known;
  }
  drains_told (suc n) c d end i entry before later split other all (mid, leaves after whole is, rest) = absurd (fence_first before later after entry (sym split.whole ∙ whole) other split.free)
  drains_told (suc n) c d end i entry before later split other all (mid, runs act own rises ran, rest) =
      let x : OwnRun locals shape c mid = record { act = act; own = own; rises = rises; ran = ran } in
      let short : length (before ++ later) ≤ length c.buffer = omega (arith, ap length split.whole, length-append before (entry ∷ later), length-append before later) in
      let next : Processor = record mid { buffer = (before ++ later) ++ appended act } in
      let shorter : OwnRun locals shape d next = subst (λ (y : Processor). OwnRun locals shape y next) (sym split.rest) (shorter_run locals shape c mid (before ++ later) x short) in
      let here : told d.recovering d.place = subst (λ (y : Processor). told y.recovering y.place) (sym split.rest) (all zero c mid refl x) in
      let now : DrainSplit i entry mid next before (later ++ appended act) = record {
        whole = run_appends locals shape c mid x ∙ ap (λ (b : List Entry). b ++ appended act) split.whole ∙ append_assoc before (entry ∷ later) (appended act);
        place = split.place;
        free = split.free;
        rest = ap (λ (b : List Entry). record mid { buffer = b }) (append_assoc before later (appended act));
      } in
      let on = drains_told n mid next end i entry before (later ++ appended act) now other (told_after c mid (run_advances locals shape c mid x) all) rest in record {
        after = on.after;
        rest = on.rest;
        split = on.split;
        back = λ known. told_before_run d next shorter here (on.back known);
      }

  -- An instruction that is no own step runs after the own steps, as it did before them. What is known after both is known after it ran.
  pub record RunsTold (c d end : Processor) (m n : Memory) (act : Act) : Type 0 where
    pub after : Processor
    pub ran : run_by shape end m ≡ Ok (act, (after, n))
    pub back : IsTold locals shape told after → IsTold locals shape told d

  pub runs_told : (k : ℕ) (c d end : Processor) (m n : Memory) (act : Act) → run_by shape c m ≡ Ok (act, (d, n)) → (is_own locals act && is_before c.place d.place) ≡ false
      → Advances locals shape k c end → RunsTold c d end m n act
  runs_told zero c d end m n act ran foreign gone = record {
    after = d;
    ran = subst (λ (x : Processor). run_by shape x m ≡ Ok (act, (d, n))) (sym gone) ran;
    back = λ known. known;
  }
  runs_told (suc k) c d end m n act ran foreign (mid, runs also own rises does, rest) =
      let same = one_outcome shape c mid d m m n also act (does m) ran in
      let rising : c.place < d.place = subst (λ (x : Processor). c.place < x.place) (sym same.1) rises in
      let before : is_before c.place d.place ≡ true = grind (arith, nat_tests, rising) in
      absurd (true≢false (sym (ap (λ (a : Act). is_own locals a && is_before c.place d.place) same.0 ∙ rw (own, before) refl) ∙ foreign))
  runs_told (suc k) c d end m n act ran foreign (mid, leaves later whole is, rest) =
      let short = behind_is_shorter locals shape c later whole in
      let too = does_too shape c d m n m act later short (fits_behind locals shape c d m n act later whole (exec_shown shape c d m n act ran)) ran in
      let next : Processor = record d { buffer = later ++ appended act } in
      let ran_mid : run_by shape mid m ≡ Ok (act, (next, n)) = ap (λ (x : Processor). run_by shape x m) is ∙ too.ran ∙ ap (λ (x : Memory). Ok (act, (next, x))) (sym too.memory) in
      let at : mid.place ≡ c.place = ap (λ (x : Processor). x.place) is in
      let on = runs_told k mid next end m n act ran_mid (ap (λ (place : ℕ). is_own locals act && is_before place d.place) at ∙ foreign) rest in record {
        after = on.after;
        ran = on.ran;
        back = λ known. told_before_fence d next (later ++ appended act) (too.buffer ∙ ap (λ (b : List Entry). b ++ appended act) whole) refl (on.back known);
      }
