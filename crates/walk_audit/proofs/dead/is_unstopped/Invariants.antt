use Rattle.std.proofs.Common.{◌≡◌, ℕ, ◌<◌, IsTrue}
use Rattle.xp_words.specs.declared.place.Place.TheVariants.{Vcpu}
use Rattle.xp_words.specs.Places.{sizes_of, memory, run_of}
use Rattle.xp_board.specs.Readings.{is_context}
use Rattle.walk_audit.proofs.dead.is_unstopped.Given as goal

abbrev pub invariant-loop-word : goal.invariant-loop-word
invariant-loop-word l = ((memory (sizes_of l.layout) l.words) (run_of l.vcpu) ≡ 1) × ((k : ℕ) → k < l.word → IsTrue (is_context k) → (memory (sizes_of l.layout) l.words) (Vcpu l.vcpu k) ≡ 0)
