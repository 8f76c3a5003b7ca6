use Rattle.std.proofs.Common.{◌≡◌, ◌-◌, ◌<◌, false, ◌∷◌, length, get_or, take, drop, arith}
use Rattle.std.proofs.lemmas.Slice.{first_rest}
use Rattle.rayon.proofs.ListFacts.{IfOk-then}
use Rattle.image_reasons.specs.declared.entries.Site.{Site}
use Rattle.fence_needs.specs.Changes.{without}
use Rattle.fence_needs.specs.Tried.{AreTried}
use Rattle.fence_needs.proofs.ChoicesAreTried.{next_tried, none_further, too_few}
use Rattle.fence_needs.proofs.choices.+each_choice_breaks.Goals as goal

pub returns-then-sites-count : goal.returns-then-sites-count
returns-then-sites-count g t c = too_few c.args.question.now c.args.limit c.args.object.now c.args.count c.args.sites.now c.args.left.now c.if-sites-count.true

pub returns-then-not-branch : goal.returns-then-not-branch
returns-then-not-branch g t c =
    let question = c.args.question.now in
    let limit = c.args.limit in
    let object = c.args.object.now in
    let count = c.args.count in
    let sites = c.args.sites.now in
    let d : Site = record { processor = 0; recovering = false; place = 0 } in
    let x = get_or sites 0 d in
    let rest = take (length sites - 1) (drop 1 sites) in
    let some : 0 < count = omega (arith, c.if-count-eq0.false) in
    let are : sites ≡ x ∷ rest = first_rest sites d (omega (arith, c.if-sites-count.false, some)) in
    let less : c.in_ok-less.less ≡ without object x = c.in_ok-less.ensures in
    let first : AreTried question limit c.in_ok-less.less (count - 1) rest c.args.left.now c.each_choice_breaks.new.left c.in_ok-each_choice_breaks.field-0 =
    c.in_ok-each_choice_breaks.ensures in
    none_further question limit object c.in_ok-less.less x count (count - 1) sites rest c.args.left.now c.each_choice_breaks.new.left
    c.in_ok-each_choice_breaks.field-0 are (omega (arith, some)) less c.if-not-branch.true first

pub returns : goal.returns
returns g t c =
    let question = c.args.question.now in
    let limit = c.args.limit in
    let object = c.args.object.now in
    let count = c.args.count in
    let sites = c.args.sites.now in
    let d : Site = record { processor = 0; recovering = false; place = 0 } in
    let x = get_or sites 0 d in
    let rest = take (length sites - 1) (drop 1 sites) in
    let some : 0 < count = omega (arith, c.if-count-eq0.false) in
    let are : sites ≡ x ∷ rest = first_rest sites d (omega (arith, c.if-sites-count.false, some)) in
    let less : c.in_ok-less.less ≡ without object x = c.in_ok-less.ensures in
    let first : AreTried question limit c.in_ok-less.less (count - 1) rest c.args.left.now c.each_choice_breaks.new.left c.in_ok-each_choice_breaks.field-0 =
    c.in_ok-each_choice_breaks.ensures in
    IfOk-then c.each_choice_breaks-2.result _ _ c.each_choice_breaks-2.ensures
    (λ told others.
    next_tried question limit object c.in_ok-less.less x count (count - 1) sites rest c.args.left.now c.each_choice_breaks.new.left
    c.each_choice_breaks-2.new.left told c.in_ok-each_choice_breaks.field-0 are (omega (arith, some)) less c.if-not-branch.false first others)
