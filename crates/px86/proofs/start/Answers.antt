use Rattle.std.proofs.Common.{map, inl, inr}
use Rattle.std.specs.String.{string_bytes}
use Rattle.px86.proofs.EachFile.{some_file}
use Rattle.px86.proofs.Parse.{misread_exit, threads_asked}
use Rattle.px86.proofs.start.Goals as goal

pub answer_all-requires-clause-threads : goal.answer_all-requires-clause-threads
answer_all-requires-clause-threads g c = λ κs lives.
    threads_asked (map string_bytes c.args.words.now) c.in-Ok.requests.first.task c.in-Ok.requests.first.file.now c.in-Ok.requests.first.input c.in-Ok.ensures.asked

pub returns-in-Err-clause-misread : goal.returns-in-Err-clause-misread
returns-in-Err-clause-misread g c = λ misread.
    misread_exit (map string_bytes c.args.words.now) c.in-Err.declined _ c.refuse.result misread.0 c.in-Err.ensures.refused c.refuse.ensures

pub returns-in-Ok-clause-misread : goal.returns-in-Ok-clause-misread
returns-in-Ok-clause-misread g c = λ misread. elim misread.1 [
  | inl fault ↦ absurd (fault c.in-Ok.ensures.whole)
  | inr none ↦ absurd (none c.in-Ok.requests.first c.in-Ok.ensures.asked)
]

pub returns-in-Ok-clause-starts : goal.returns-in-Ok-clause-starts
returns-in-Ok-clause-starts g c =
    let words = map string_bytes c.args.words.now in
    let first = c.in-Ok.requests.first in
    inl (record {
      files = map (λ file. file.now) c.in-Ok.requests.files.items;
      whole = c.in-Ok.ensures.whole;
      named = c.in-Ok.ensures.files;
      some = some_file words first.task first.file.now first.input _ c.in-Ok.ensures.asked c.in-Ok.ensures.files;
      are = c.answer_all.ensures.done words c.in-Ok.ensures.asked c.in-Ok.ensures.files c.in-Ok.ensures.form c.in-Ok.ensures.moves;
    })

pub returns-in-Err-clause-starts : goal.returns-in-Err-clause-starts
returns-in-Err-clause-starts g c = inr (record {
  declined = c.in-Err.declined;
  why = c.in-Err.ensures.refused;
  faulty = c.in-Err.ensures.declined;
  declines = c.refuse.ensures;
})
