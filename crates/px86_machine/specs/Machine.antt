-- Words for clauses that speak of a machine: its states, its steps, and runs of them.
pub use Rattle.persist_buffer.specs.State.{Memory}
pub use Rattle.persist_buffer.specs.Memories.{coherent}
pub use Rattle.machine.specs.State.{Processor, State}
pub use Rattle.machine.specs.declared.step.Step.{Step}
pub use Rattle.machine.specs.Objects.{opening}
pub use Rattle.machine.specs.Processors.{halted, instruction_at}
pub use Rattle.machine.specs.Programs.{AreSiblings}
pub use Rattle.machine.specs.Steps.{End, run_of, step_of}
