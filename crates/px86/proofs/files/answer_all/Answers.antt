use Rattle.std.proofs.Common.{◌≡◌, ◌∙◌, ◌+◌, List, [], ap, append-nil, arith, drop, false, inl, inr, nat_lt, refl, sym, take, take-append-drop}
use Rattle.std.specs.Borrow.{Bor}
use Rattle.std.proofs.lemmas.List.{length-map, take_all}
use Rattle.px86.specs.Starts.{is_unwritten, AreAnswered}
use Rattle.px86.proofs.EachFile.{next_answered, room_is_left, texts}
use Rattle.px86.proofs.files.answer_all.Goals as goal

pub loop-file-init : goal.loop-file-init
loop-file-init g c = record {
  answered = λ words asked files form moves. AreAnswered.none;
  several = rw c.as_slice-files.ensures.value (ap (nat_lt 1) (sym (length-map c.args.requests.now.files.items (λ (item : Bor (List _)). item.now))));
  room = c.requires.out;
  low = omega arith;
}

pub returns-then-is_unwritten-clause-done : goal.returns-then-is_unwritten-clause-done
returns-then-is_unwritten-clause-done g c = λ words asked files form moves.
    let world = g.O.Outside.world c.args.outside.now in
    let items = c.args.requests.now.files.items in
    let seen = c.as_slice-files.ensures.value in
    let one = c.of_file-request.ensures in
    let next = next_answered world words g.W.Sink.device c.args.requests.now.first items c.args.out.now c.loop-file.out c.do_task-ended.new.out c.loop-file.file-index c.loop-file.status _ _
    c.of_file-request.result c.do_task-ended.result.answer (rw seen at c.loop-file-test.true) (record { task = asked; files = files; form = form; moves = moves })
    (record { file_is = rw seen at one.file; several_is = rw seen at c.loop-file.invariant.several; named = rw seen at one.named; task = one.task; input = one.input; moves = one.moves; form = one.form })
    (c.loop-file.invariant.answered words asked files form moves) c.do_task-ended.ensures in
    record {
      done = take (c.loop-file.file-index + 1) (texts items);
      left = drop (c.loop-file.file-index + 1) (texts items);
      are = take-append-drop (c.loop-file.file-index + 1) (texts items);
      stopped = is_unwritten c.do_task-ended.result.answer;
      answered = rw (c.greater-status.ensures, c.status_of.ensures.status) next;
      all = inr (sym c.is_unwritten.ensures ∙ c.if-is_unwritten.true);
    }

pub loop-file-preserved : goal.loop-file-preserved
loop-file-preserved g c =
    let goes : is_unwritten c.do_task-ended.result.answer ≡ false = sym c.is_unwritten.ensures ∙ c.if-is_unwritten.false in
    record {
      answered = λ words asked files form moves.
          let world = g.O.Outside.world c.args.outside.now in
          let items = c.args.requests.now.files.items in
          let seen = c.as_slice-files.ensures.value in
          let one = c.of_file-request.ensures in
          let next = next_answered world words g.W.Sink.device c.args.requests.now.first items c.args.out.now c.loop-file.out c.do_task-ended.new.out c.loop-file.file-index c.loop-file.status _ _
          c.of_file-request.result c.do_task-ended.result.answer (rw seen at c.loop-file-test.true) (record { task = asked; files = files; form = form; moves = moves })
          (record { file_is = rw seen at one.file; several_is = rw seen at c.loop-file.invariant.several; named = rw seen at one.named; task = one.task; input = one.input; moves = one.moves; form = one.form })
          (c.loop-file.invariant.answered words asked files form moves) c.do_task-ended.ensures in
          rw (c.greater-status.ensures, c.status_of.ensures.status) (rw goes at next);
      several = c.loop-file.invariant.several;
      room = room_is_left (g.O.Outside.world c.args.outside.now) c.of_file-request.result (record { seen = g.W.Sink.device; old = c.loop-file.out; new = c.do_task-ended.new.out })
          c.do_task-ended.result.answer goes c.do_task-ended.ensures c.loop-file.invariant.room;
      low = omega (arith, c.greater-status.ensures, c.loop-file.invariant.low, c.status_of.ensures.low);
    }

pub returns-clause-done : goal.returns-clause-done
returns-clause-done g c = λ words asked files form moves.
    let items = c.args.requests.now.files.items in
    let past = rw c.as_slice-files.ensures.value at c.loop-file-test.false in
    let all : take c.loop-file.file-index (texts items) ≡ texts items =
    take_all c.loop-file.file-index (texts items) (rw (length-map items (λ (item : Bor (List _)). item.now)) (omega (arith, past))) in
    record {
      done = take c.loop-file.file-index (texts items);
      left = [];
      are = append-nil _ ∙ all;
      stopped = false;
      answered = c.loop-file.invariant.answered words asked files form moves;
      all = inl refl;
    }
