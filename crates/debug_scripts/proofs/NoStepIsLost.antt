-- What a continue leaves leads where all steps led that were ahead of it.
use Rattle.std.proofs.Common.{◌≡◌, ℕ, suc, ◌+◌, List, [], ◌++◌, length, take, drop, sym, ◌∙◌, ap, subst, arith}
use Rattle.std.proofs.lemmas.List.{append-nil, take_all, take-append-drop}
use Rattle.std.specs.List.{remove}
use Rattle.lines_layout.specs.Layouts.{NamedLines}
use Rattle.machine.specs.declared.step.Step.{Step}
use Rattle.machine.specs.declared.refusal.Refusal.{Refusal}
use Rattle.debugger.specs.declared.halt.Halt.{Halt}
use Rattle.debugger.specs.declared.halt.Halt.TheVariants as halts
use Rattle.debugger.specs.Halts.{halt_of, made}
use Rattle.debugger.specs.Marks.{tried}
use Rattle.debugger.specs.Pasts.{AreAccepted}
use Rattle.debugger.specs.Sessions.{SessionValue, after}
use Rattle.debugger.proofs.LeastPrefixStops.{stop_only, refused_only, end_only}
use Rattle.debugger.proofs.PartsJoin.{after-append}
use Rattle.debug_scripts.specs.declared.orders.Command.TheVariants.{Continue}
use Rattle.debug_scripts.specs.Ahead.{all_ahead}
use Rattle.debug_scripts.specs.DebugReports.{Stand, follow, leads_to}

-- steps that were made, and then those that are left
left_lead : (v : SessionValue) (xs ys : List Step) → AreAccepted xs v.past.state → after (after v xs) (ys ++ []) ≡ after v (xs ++ ys)
left_lead v xs ys ok = ap (λ (zs : List Step). after (after v xs) zs) (append-nil ys) ∙ after-append v xs ys ok

-- where steps lead that halt so
abbrev leads_by : SessionValue → List Step → Halt → SessionValue
leads_by v steps halt = after (after v (take (made steps halt) steps)) (drop (tried steps halt) steps ++ [])

-- the front and all behind it
joined : (v : SessionValue) (n : ℕ) (steps : List Step) → AreAccepted (take n steps) v.past.state → after (after v (take n steps)) (drop n steps ++ []) ≡ after v steps
joined v n steps ok = left_lead v (take n steps) (drop n steps) ok ∙ ap (λ (zs : List Step). after v zs) (take-append-drop n steps)

pub stopped_leads : (names : NamedLines) (s : Stand) (id n : ℕ) → halt_of s.session (all_ahead s.ahead) ≡ halts.Stop id n → leads_to (follow names s Continue) ≡ leads_to s
stopped_leads names s id n e =
    let steps = all_ahead s.ahead in
    let at = stop_only s.session steps id n e in
    ap (λ (halt : Halt). leads_by s.session steps halt) e ∙ joined s.session n steps at.accepted

pub ended_leads : (names : NamedLines) (s : Stand) → halt_of s.session (all_ahead s.ahead) ≡ halts.End → leads_to (follow names s Continue) ≡ leads_to s
ended_leads names s e =
    let steps = all_ahead s.ahead in
    let at = end_only s.session steps e in
    let front = subst (λ (zs : List Step). AreAccepted zs s.session.past.state) (sym (take_all (length steps) steps (omega arith))) at.accepted in
    ap (λ (halt : Halt). leads_by s.session steps halt) e ∙ joined s.session (length steps) steps front

pub refused_leads : (names : NamedLines) (s : Stand) (n : ℕ) (refusal : Refusal) → halt_of s.session (all_ahead s.ahead) ≡ halts.Refused n refusal
    → leads_to (follow names s Continue) ≡ after s.session (remove (all_ahead s.ahead) n)
refused_leads names s n refusal e =
    let steps = all_ahead s.ahead in
    let at = refused_only s.session steps n refusal e in
    ap (λ (halt : Halt). leads_by s.session steps halt) e ∙ left_lead s.session (take n steps) (drop (n + 1) steps) at.accepted
    ∙ ap (λ (k : ℕ). after s.session (take n steps ++ drop k steps)) add_one
  where
    add_one : n + 1 ≡ suc n
    add_one = omega arith
