use Rattle.std.proofs.Common.{sym, ◌∙◌}
use Rattle.foreign_map.proofs.Admitting.{allows_caller, allows_had, allows_not, allows_same}
use Rattle.foreign_map.proofs.owners.allow.Goals.{then-tables-caller-via-then-tables-caller, then-tables-caller-via-else-tables-caller+then-tables-frames}
use Rattle.foreign_map.proofs.owners.allow.Goals as goal

pub returns-then-tables-caller-clause-steps : goal.returns-then-tables-caller-clause-steps
returns-then-tables-caller-clause-steps g c =
    let v = g.P.Port.value c.args.port.now in
    elim c.then-tables-caller.branch [
      | then-tables-caller-via-then-tables-caller w ↦ allows_caller v c.args.caller c.args.tables c.args.frames w.if-tables-caller.true
      | then-tables-caller-via-else-tables-caller+then-tables-frames w ↦ allows_same v c.args.caller c.args.tables c.args.frames w.if-tables-frames.true
    ]

pub returns-then-has_privilege-clause-steps : goal.returns-then-has_privilege-clause-steps
returns-then-has_privilege-clause-steps g c =
    allows_had (g.P.Port.value c.args.port.now) c.args.caller c.args.tables c.args.frames (g.P.Port.value c.look_privileges.new.port) c.look_privileges.result c.if-tables-caller.false c.if-tables-frames.false
    c.look_privileges.ensures.moves (sym c.has_privilege.ensures ∙ c.if-has_privilege.true)

pub returns-clause-steps : goal.returns-clause-steps
returns-clause-steps g c =
    allows_not (g.P.Port.value c.args.port.now) c.args.caller c.args.tables c.args.frames (g.P.Port.value c.look_privileges.new.port) c.look_privileges.result c.if-tables-caller.false c.if-tables-frames.false
    c.look_privileges.ensures.moves (sym c.has_privilege.ensures ∙ c.if-has_privilege.false)
