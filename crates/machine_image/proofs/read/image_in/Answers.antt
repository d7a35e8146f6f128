use Rattle.std.proofs.Common.{ℕ, List, Result, subst}
use Rattle.xp_words.specs.Machine.{Machine}
use Rattle.machine_image.specs.Reading.{ReadsAs}
use Rattle.machine_image.proofs.Whole.{reads_back, found_by, fault_by}
use Rattle.machine_image.proofs.read.image_in.Goals as goal

pub returns-clause-found : goal.returns-clause-found
returns-clause-found c = found_by c.args.bytes.now (λ x. x.0) (λ x. x.1.now) c.image.result (record { small = c.len-len.ensures.bytes }) c.image.ensures

pub returns-clause-only : goal.returns-clause-only
returns-clause-only c = λ m ws is text. subst (λ (r : Result (Machine × List ℕ) ℕ). ReadsAs {Y = Machine × List ℕ} (λ x. (x.0, x.1.now)) c.image.result r) (reads_back c.args.bytes.now m ws is text) c.image.ensures

pub returns-clause-fault : goal.returns-clause-fault
returns-clause-fault c = fault_by c.args.bytes.now (λ x. x.0) (λ x. x.1.now) c.image.result c.image.ensures
