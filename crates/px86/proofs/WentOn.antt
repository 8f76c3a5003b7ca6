-- A conversation by one account of what went on is one by each account that has as much.
use Rattle.std.proofs.Common.{inl, inr, Result, Ok, Err, List, []}
use Rattle.commands.specs.declared.fault.Fault.{Fault}
use Rattle.commands.specs.declared.status.Status.{Status}
use Rattle.commands.specs.Serving.{Used}
use Rattle.talks.specs.Events.{Event}
use Rattle.conversations.specs.Conversing.{AnswersOn, ConversesOn}

module _ (W V : List Event → Type 0) (more : (talk : List Event) → W talk → V talk) where
  answers_too : (object : _) (result : Result Status Fault) → AnswersOn object W result → AnswersOn object V result
  answers_too (Ok object) result (inl a) =
      let (place, talk) = a.talks in
      inl (record {
        talk = a.talk;
        talks = (
          place,
          record {
            lines = talk.lines;
            middle = talk.middle;
            left = talk.left;
            limit = talk.limit;
            last = talk.last;
            went = more _ talk.went;
            ends = talk.ends;
          },
        );
        is = a.is;
      })
  answers_too (Ok object) result (inr (nothing, is)) = inr (more [] nothing, is)
  answers_too (Err fault) result (nothing, is) = (more [] nothing, is)

  pub converses_too : {P : Type 0} (program : Used P) (result : Result Status Fault) → ConversesOn program W result → ConversesOn program V result
  converses_too program result c = record { object = c.object; reads = c.reads; answers = answers_too c.object result c.answers }
