-- What commands without threads find, as JSON, and the works of these reports. (Those of `run`, `trace` and `next` are in files of their own.)
use Rattle.std.specs.Prelude.{ℕ, Option, List, [], ◌∷◌, ◌++◌, codes}
use Rattle.lines_layout.specs.Layouts.{NamedLines}
use Rattle.isa.specs.Objects as programs
use Rattle.machine.specs.declared.step.Step.{Step}
use Rattle.machine.specs.declared.trace_law.Pair.{Pair}
use Rattle.commands.specs.declared.fault.Stage.TheVariants as stages
use Rattle.commands.specs.declared.jobs.ImagesOptions.{ImagesOptions}
use Rattle.commands.specs.declared.jobs.ReplayOptions.{ReplayOptions}
use Rattle.commands.specs.declared.jobs.SetOptions.{SetOptions}
use Rattle.jobs.specs.Forms.{command_work}
use Rattle.commands.specs.Serving.{Report}
use Rattle.commands.specs.Works.{Work}
use Rattle.jobs.specs.ImageReports.{Listing}
use Rattle.jobs.specs.ImagesTold.{ImageTold}
use Rattle.jobs.specs.declared.image_told.WithImage.{WithImage}
use Rattle.questions.specs.Questions.{Questioned}
use Rattle.jobs.specs.Reports.{images_found, law_found, replay_found, set_found}
use Rattle.json_texts.specs.Objects.{Field, Tree, header, num, nums, obj, or_null, report_text}
use Rattle.json_texts.specs.ImageData.{all_data, candidates_data, images_data, names_data, some_data}
use Rattle.litmus_text.specs.TextLines.{TextLines}
use Rattle.json_texts.specs.ReasonData.{explained_data}
use Rattle.json_texts.specs.SourceMaps.{SourceMap}
use Rattle.json_texts.specs.StepData.{steps_data}

-- a program with the lines of its text
abbrev pub source_of : programs.Object → TextLines → SourceMap
source_of object lines = record { names = object.layout; lines = lines }

-- what is found, as the text of its tree
abbrev pub json_form : {A : Type 0} → (A → Tree) → A → List ℕ
json_form tree_of found = report_text (tree_of found)

-- an image explained: the writes that are missing in it
abbrev pub image_told_data : SourceMap → ImageTold → Tree
image_told_data source told = explained_data source told.missing

-- what is found of images
abbrev pub listing_fields : NamedLines → Listing → List Field
listing_fields names listing =
    (codes "candidates", candidates_data listing.count) ∷ (codes "words", names_data names) ∷ (codes "images", or_null images_data listing.images)
    ∷ (codes "all", or_null (all_data listing.failing) listing.broken) ∷ (codes "some", or_null some_data listing.met) ∷ []

-- the same, and what is told of the image that breaks the condition
abbrev pub images_data_of : SourceMap → WithImage Listing → Tree
images_data_of source found =
    obj (header (codes "images")
    ++ (codes "explained", or_null (image_told_data source) found.told) ∷ listing_fields source.names found.found)

-- images --json
abbrev pub images_on : ImagesOptions → Questioned → List ℕ → Work Report
images_on options program steps =
    command_work (images_found options program steps) stages.Images (json_form (images_data_of (source_of program.lined.object program.lined.lines)))

-- the places of the entries that leave an image, if there are such, and what is told of the image
abbrev pub set_data : SourceMap → WithImage (Option (List ℕ)) → Tree
set_data source found =
    obj (header (codes "images") ++ (codes "set", or_null nums found.found) ∷ (codes "explained", or_null (image_told_data source) found.told) ∷ [])

-- images --set --json
abbrev pub set_on : SetOptions → programs.Object → TextLines → List ℕ → Work Report
set_on options object lines steps = command_work (set_found options object steps) stages.Images (json_form (set_data (source_of object lines)))

-- a pair of operations that breaks the order, and the step at which it does
abbrev pub pair_data : Pair → Tree
pair_data pair = obj ((codes "cpu", num pair.cpu) ∷ (codes "first", num pair.first) ∷ (codes "second", num pair.second) ∷ (codes "at", num pair.at) ∷ [])

-- the pair that was found, if there is one
abbrev pub law_data : Option Pair → Tree
law_data found = obj (header (codes "law") ++ (codes "broken", or_null pair_data found) ∷ [])

-- law --json
abbrev pub law_on : programs.Object → List ℕ → Work Report
law_on object steps = command_work (law_found object steps) stages.Machine (json_form law_data)

-- the steps of a schedule
abbrev pub replay_data : List Step → Tree
replay_data steps = obj (header (codes "replay") ++ (codes "steps", steps_data steps) ∷ [])

-- replay --json
abbrev pub replay_on : ReplayOptions → programs.Object → List ℕ → Work Report
replay_on options object steps = command_work (replay_found options object steps) stages.Machine (json_form replay_data)
