use Rattle.std.proofs.Common.{◌∙◌, sym}
use Rattle.loader.proofs.FaultsAreTheFirst.{fault_told, object_fault}
use Rattle.loader.proofs.laws.faults_are_the_first.Goals as goal

pub returns-clause-only : goal.returns-clause-only
returns-clause-only c = object_fault c.codes_are_read.ensures.fault c.codes_are_read.ensures.only

pub returns-clause-all : goal.returns-clause-all
returns-clause-all c = fault_told c.codes_are_read.ensures.faults c.codes_are_read.ensures.all c.codes_are_read.ensures.short

pub returns-clause-single : goal.returns-clause-single
returns-clause-single c = λ bytes fault other fits one two.
    let told = fault_told c.codes_are_read.ensures.faults c.codes_are_read.ensures.all c.codes_are_read.ensures.short in
    let same = sym (told bytes fault fits one) ∙ told bytes other fits two in
    cc
