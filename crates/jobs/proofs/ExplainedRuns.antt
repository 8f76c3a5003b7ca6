-- What explains a run: its crashes are told one by one, and it is part of the report.
use Rattle.std.proofs.Common.{◌≡◌, ◌∙◌, ◌++◌, IfOk, Result, Ok, Err, ℕ, ◌+◌, ◌<◌, List, [], ◌∷◌, append_assoc, drop, get_or, length, map, sym, ap, subst}
use Rattle.std.specs.Prelude.{All}
use Rattle.std.proofs.lemmas.List.{drop_more, map-append}
use Rattle.std.proofs.lemmas.List.Elements.{All-append, All-cons, All-nil}
use Rattle.explore.specs.declared.verdict.Failure.{Failure}
use Rattle.explore.specs.declared.verdict.Verdict.TheVariants.{Fails}
use Rattle.commands.specs.declared.jobs.CheckOptions.{CheckOptions}
use Rattle.commands.specs.Serving.{Report}
use Rattle.jobs.specs.declared.explained.CrashTold.{CrashTold}
use Rattle.jobs.specs.declared.explained.Explained.{Explained}
use Rattle.jobs.specs.declared.start.Start.{Start}
use Rattle.jobs.specs.CheckReports.{Explains, MayReport, failed_report}

pub one_more : (IsSo : CrashTold → Type 0) (places : List ℕ) (i : ℕ) (told now : List CrashTold) (one : CrashTold) (d : ℕ) → now ≡ told ++ one ∷ [] → i < length places
    → one.place ≡ get_or places i d → IsSo one
    → (map (λ crash. crash.place) told ++ drop i places ≡ places) × All IsSo told
    → (map (λ crash. crash.place) now ++ drop (i + 1) places ≡ places) × All IsSo now
one_more IsSo places i told now one d pushed inside there is so_far =
    let p = λ (crash : CrashTold). crash.place in
    let rest = drop (i + 1) places in (
      ap (λ (ts : List CrashTold). map p ts ++ rest) pushed ∙ ap (λ (ps : List ℕ). ps ++ rest) (map-append p told (one ∷ []))
          ∙ append_assoc (map p told) (one.place ∷ []) rest ∙ ap (λ (x : ℕ). map p told ++ x ∷ rest) there
          ∙ ap (λ (ps : List ℕ). map p told ++ ps) (sym (drop_more places i d inside)) ∙ so_far.0,
      subst (All IsSo) (sym pushed) (All-append IsSo told (one ∷ []) so_far.1 (All-cons IsSo one [] is (All-nil IsSo))),
    )

pub explained_if : {E : Type 0} (options : CheckOptions) (start : Start) (failure : Failure) (told : Explained) (report : Result Report E) → Explains options start failure told
    → IfOk report (λ made. made ≡ failed_report options start failure told) → IfOk report (MayReport options start (Fails failure))
explained_if options start failure told (Ok made) explains is = (told, explains, is)
explained_if options start failure told (Err error) explains is = is
