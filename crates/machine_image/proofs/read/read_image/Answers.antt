use Rattle.std.proofs.Common.{ℕ, List, Result, subst, arith}
use Rattle.xp_words.specs.Machine.{Machine}
use Rattle.machine_image.specs.Reading.{ReadsAs}
use Rattle.machine_image.proofs.Whole.{reads_back, found_by, fault_by}
use Rattle.machine_image.proofs.read.read_image.Goals as goal

pub returns-clause-found : goal.returns-clause-found
returns-clause-found c = found_by c.args.bytes.now (λ x. x.0) (λ x. x.1.items) c.copied.result (record { small = λ i. omega (arith, c.type_inv.bytes i) }) c.copied.ensures

pub returns-clause-only : goal.returns-clause-only
returns-clause-only c = λ m ws is text. subst (λ (r : Result (Machine × List ℕ) ℕ). ReadsAs {Y = Machine × List ℕ} (λ x. (x.0, x.1.items)) c.copied.result r) (reads_back c.args.bytes.now m ws is text) c.copied.ensures

pub returns-clause-fault : goal.returns-clause-fault
returns-clause-fault c = fault_by c.args.bytes.now (λ x. x.0) (λ x. x.1.items) c.copied.result c.copied.ensures
