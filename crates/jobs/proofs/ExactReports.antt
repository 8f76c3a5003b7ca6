-- What is known of the texts that were read is known of whatever they are read as.
use Rattle.std.proofs.Common.{◌≡◌, ◌∙◌, ℕ, true, Result, Ok, List, ap, subst, sym}
use Rattle.isa.specs.Objects.{Object}
use Rattle.machine.specs.declared.step.Step.{Step}
use Rattle.machine.specs.Objects.{opening}
use Rattle.machine.specs.Steps.{run_of}
use Rattle.images.specs.Images.{IsLeastSet, IsListing, closed_set_of, images_of}
use Rattle.commands.specs.declared.fault.Refused.{Refused}
use Rattle.commands.specs.declared.jobs.ImagesOptions.{ImagesOptions}
use Rattle.commands.specs.Programs.{list_work}
use Rattle.commands.specs.Works.{Makes}
use Rattle.questions.specs.Questions.{Questioned}
use Rattle.jobs.specs.ImageReports.{Question, looks}
use Rattle.jobs.specs.Reports.{question_work, IsOfImagesOn, IsOfSetOn}
use Rattle.jobs.specs.Values.{values_work}

pub all_images_on : (options : ImagesOptions) (program : Questioned) (steps : List ℕ) (question : Question) (list : List Step)
    → Makes (question_work program options) (Ok question) → Makes (list_work steps) (Ok list)
    → (looks question ≡ true → IsListing (run_of list (opening program.lined.object)).state (images_of (run_of list (opening program.lined.object)).state))
    → IsOfImagesOn options program steps
unfolding Makes
all_images_on options program steps question list read_question read_list listed q xs question_is list_is looks_at =
    let same_question : ◌≡◌ {A = Result Question Refused} (Ok question) (Ok q) = sym read_question ∙ question_is in
    let asked_is : question ≡ q = cc in
    let same_list : ◌≡◌ {A = Result (List Step) Refused} (Ok list) (Ok xs) = sym read_list ∙ list_is in
    let steps_are : list ≡ xs = cc in
    subst (λ (ys : List Step). IsListing (run_of ys (opening program.lined.object)).state (images_of (run_of ys (opening program.lined.object)).state)) steps_are
    (listed (ap looks asked_is ∙ looks_at))

pub least_set_on : (text : List ℕ) (object : Object) (steps image : List ℕ) (list : List Step)
    → Makes (values_work object.layout text) (Ok image) → Makes (list_work steps) (Ok list)
    → IsLeastSet (run_of list (opening object)).state image (closed_set_of (run_of list (opening object)).state image)
    → IsOfSetOn text object steps
unfolding Makes
least_set_on text object steps image list read_values read_list least other xs values_are list_is =
    let same_image : ◌≡◌ {A = Result (List ℕ) Refused} (Ok image) (Ok other) = sym read_values ∙ values_are in
    let image_is : image ≡ other = cc in
    let same_list : ◌≡◌ {A = Result (List Step) Refused} (Ok list) (Ok xs) = sym read_list ∙ list_is in
    let steps_are : list ≡ xs = cc in
    subst (λ (y : List ℕ). IsLeastSet (run_of xs (opening object)).state y (closed_set_of (run_of xs (opening object)).state y)) image_is
    (subst (λ (ys : List Step). IsLeastSet (run_of ys (opening object)).state image (closed_set_of (run_of ys (opening object)).state image)) steps_are least)
