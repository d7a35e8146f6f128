-- The whole script, of a vCPU that opens it, from the laws of acquisitions, releases, entries and extents.
use Rattle.std.proofs.Common.{◌≡◌, true}
use Rattle.xp_board.specs.Told.{PortValue}
use Rattle.course_laws.proofs.Awaiting.{NeitherLostNorBusy}
use Rattle.script_law.specs.Scripts.{script_alone}
use Rattle.script_law.specs.Values.{Solo}
use Rattle.solo_accesses.specs.Stale.{IsNeverStale}
use Rattle.solo_memory.proofs.Coming.{own_domain}
use Rattle.solo_pins.proofs.Meaning.{Laws}
use Rattle.solo_ports.specs.Standing.{Fair, whose}
use Rattle.vcpu_turn.specs.Cpus.{Processing}
use Rattle.script_laws.specs.Logged.{IsLogged}
use Rattle.script_laws.specs.Opening.{IsStoppedAt, OpensScript}
use Rattle.script_laws.specs.Turns.{IsLog, Turned}
use Rattle.script_laws.proofs.Ending.{whole_script}
use Rattle.script_laws.proofs.Entering.{AtLaw, KeptOn, PairLaw, elements}
use Rattle.script_laws.proofs.Extents.{ExtentLaw}
use Rattle.script_laws.proofs.Knowing.{ShownLaws}

pub script_comes : (l : Laws) (neither : NeitherLostNorBusy) → KeptOn → PairLaw → AtLaw → ShownLaws → ExtentLaw → (c d : Processing) (v w : PortValue) (x : Solo) → OpensScript c v x → Turned c v d w → d.retired ≡ true → Fair v w → IsNeverStale v w →
    IsLog IsLogged d.log (script_alone (whose v) c.script x).log × IsStoppedAt w (script_alone (whose v) c.script x).left
script_comes l neither kept_on pair at shown extent c d v w x opens turned retired fair fresh =
    let real = own_domain v x opens.clean in
    whole_script l neither v real (elements l neither kept_on pair at shown v real extent) c d w x turned (record { fair = fair; fresh = fresh }) opens.domain opens.no_line opens.none opens.at opens.on opens.clean opens.alive retired
