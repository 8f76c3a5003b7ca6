use Rattle.std.proofs.Common.{◌≡◌, ◌≤◌, ℕ, List, false, map, take}
use Rattle.commands.specs.Devices.{CanCountOneMore}
use Rattle.px86.specs.CommandLines.{are_several, AsksFor, HasFiles, HasForm, HasMoves}
use Rattle.px86.specs.Starts.{AreAnswered}
use Rattle.px86.proofs.files.answer_all.Given as goal

abbrev pub invariant-loop-file : goal.invariant-loop-file
invariant-loop-file g l =
    let files = map (λ file. file.now) l.requests.files.items in
    record {
      answered : (words : List (List ℕ)) → AsksFor words l.requests.first.task l.requests.first.file.now l.requests.first.input → HasFiles words files
          → HasForm words l.requests.first.form → HasMoves words l.requests.first.ways.moves
          → AreAnswered (g.O.Outside.world l.outside) words (are_several files) g.W.Sink.device l.fn.out (take l.file-index files) l.out l.status false;
      several : l.several ≡ are_several files;
      room : CanCountOneMore (g.W.Sink.device l.out);
      low : l.status ≤ 5;
    }
