-- A plan is read, and then it is played: that is the whole command.
use Rattle.std.proofs.Common.{◌≡◌, true, Result, Ok, Err, [], ◌∷◌, ap, refl}
use Rattle.std.proofs.lemmas.List.Elements.{Contains-append_right}
use Rattle.commands.specs.declared.fault.Fault.{Fault}
use Rattle.commands.specs.declared.fault.Fault.TheVariants as faults
use Rattle.commands.specs.declared.fault.Stage.TheVariants as stages
use Rattle.commands.specs.Faults.{stage_of}
use Rattle.commands.specs.declared.status.Status.{Status}
use Rattle.commands.specs.Serving.{ReadsSources, Report, Serves, Sources, Used}
use Rattle.commands.specs.Works.{Makes}
use Rattle.commands.proofs.WorksInTurn.{made_first, made_next}
use Rattle.debug_scripts.specs.DebugPlans.{MakesPlan, Plan, PlaysIfMade, ReadsPlan, debug_command, orders_work, plan_work, play_work}

-- what is made of stops and watchers that are at hand may also be made if they are made first
played_orders : (p : Plan) (made : Result Report Fault) → Makes (play_work p) made → Makes (orders_work p) made
unfolding Makes play_work orders_work
played_orders p (Ok report) h = h
played_orders p (Err (faults.Refused refused)) h = h
played_orders p (Err (faults.Missing missing)) h = Contains-append_right (stages.Conditions ∷ []) (stages.Machine ∷ stages.Session ∷ []) (stage_of missing) h
played_orders p (Err (faults.Device device)) h = h

module _ (P S W : Type 0) (program : Used P) (script : Used S) (out : Used W) (result : Result Status Fault) where
  by_read : (read : Result Sources Fault) (made : Result Plan Fault) → ReadsSources true program script read → MakesPlan read made
      → PlaysIfMade made out result → Serves debug_command program script out result
  unfolding debug_command
  by_read (Ok both) (Ok p) reads makes plays =
      record {
        read = Ok both;
        made = plays.made;
        reads = reads;
        makes = made_next (plan_work both.program both.steps) orders_work p plays.made makes (played_orders p plays.made plays.makes);
        writes = plays.writes;
      }
  by_read (Ok both) (Err fault) reads makes plays =
      record { read = Ok both; made = Err fault; reads = reads; makes = made_first (plan_work both.program both.steps) orders_work fault makes; writes = plays }
  by_read (Err unread) (Err fault) reads makes plays = record { read = Err unread; made = Err fault; reads = reads; makes = (let same : fault ≡ unread = cc in ap (λ (f : Fault). Err f) same); writes = plays }
  by_read (Err unread) (Ok p) reads makes plays = absurd cc

  pub served_by_parts : (made : Result Plan Fault) → ReadsPlan program script made → PlaysIfMade made out result
      → Serves debug_command program script out result
  served_by_parts made reads plays = by_read reads.read made reads.reads reads.makes plays
