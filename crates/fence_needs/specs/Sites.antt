-- The flushes and fences of a program, and where they are.
use Rattle.std.specs.Prelude.{◌≡◌, ◌↔◌, ℕ, Contains, ◌++◌, Bool, true, false, List, filter, map, slice_index_or}
use Rattle.std.specs.List.{enumerate_from, flat_map}
use Rattle.isa.specs.declared.instr.Instr.{Instr}
use Rattle.isa.specs.declared.instr.Instr.TheVariants.{Memory, Fence, Nop}
use Rattle.isa.specs.declared.instr.Access.{Access}
use Rattle.isa.specs.declared.instr.Access.TheVariants.{Flush}
use Rattle.isa.specs.declared.programs.Programs.{Programs}
use Rattle.isa.specs.Objects.{Object}
use Rattle.image_reasons.specs.declared.entries.Site.{Site}
use Rattle.image_reasons.specs.PutIn.{code_at}

-- whether an access is a flush
abbrev pub is_flush : Access → Bool
is_flush (Flush kind) = true
is_flush _ = false

-- whether an instruction is a flush or a fence
abbrev pub is_fence : Instr → Bool
is_fence (Memory access operand) = is_flush access
is_fence (Fence kind) = true
is_fence _ = false

-- the sites of a program at which there is a flush or a fence, by place
abbrev pub sites_in : ℕ → Bool → List Instr → List Site
sites_in processor recovering code =
    map (λ (e : ℕ × Instr). record { processor = processor; recovering = recovering; place = e.0 })
    (filter (λ (e : ℕ × Instr). is_fence e.1) (enumerate_from 0 code))

-- those of a processor: of its main program, and then of its recovery program
abbrev pub sites_by : ℕ → Programs → List Site
sites_by processor programs = sites_in processor false programs.main ++ sites_in processor true programs.recovery

-- those of an object, processor by processor
abbrev pub sites_of : Object → List Site
sites_of object = flat_map (λ (e : ℕ × Programs). sites_by e.0 e.1) (enumerate_from 0 object.processors)

-- the instruction at a site, a nop where there is none
abbrev pub instr_at : Object → Site → Instr
instr_at object site = slice_index_or (code_at object site.processor site.recovering) site.place Nop

-- A site is listed exactly when a flush or a fence is there.
abbrev pub ListsFences : Object → Type 0
ListsFences object = (site : Site) → Contains (sites_of object) site ↔ (is_fence (instr_at object site) ≡ true)
