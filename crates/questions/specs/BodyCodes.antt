-- How the logic stores what was read of an item. Nothing here says anything about it.
use Rattle.std.specs.Prelude.{ℕ, List, refl}
use Rattle.std.specs.Coded.{Coded, code_by, coded×, coded_list, coded_ℕ}
use Rattle.questions.specs.declared.body.Stage.{Stage}
use Rattle.questions.specs.declared.level.Level.{Level}
use Rattle.questions.specs.declared.test.Test.{Test}
use Rattle.questions.specs.declared.test.Pointer.{Pointer}
use Rattle.questions.specs.contracts.body.Stage as stage
use Rattle.questions.specs.contracts.level.Level as level
use Rattle.questions.specs.contracts.test.Test as test
use Rattle.questions.specs.contracts.test.Pointer as pointer
use Rattle.questions.specs.Bodies.{Body}

abbrev pub coded_body : Coded Body
coded_body =
    code_by (Stage × (Level × (List Level × (Test × (List Pointer × ℕ)))))
    (coded× stage.the_row.coded (coded× level.the_row.coded (coded× (coded_list level.the_row.coded) (coded× test.the_row.coded (coded× (coded_list pointer.the_row.coded) coded_ℕ)))))
    (λ b. (b.stage, (b.level, (b.outer, (b.test, (b.pointers, b.size))))))
    (λ p. record { stage = p.0; level = p.1.0; outer = p.1.1.0; test = p.1.1.1.0; pointers = p.1.1.1.1.0; size = p.1.1.1.1.1 }) (λ _. refl)
