use Rattle.std.proofs.Common.{◌<◌, length, Result, Ok, Err, sym, ap, ◌∙◌, subst}
use Rattle.std.proofs.lemmas.Result.{err_from_is_err_and}
use Rattle.xp_words.specs.declared.reply.Refusal.{Refusal}
use Rattle.xp_board.specs.Told.{Post, PortValue}
use Rattle.foreign_map.specs.declared.owners.Owners.{Owners}
use Rattle.foreign_map.specs.Owning.{AdmitsFound, FoundOwners}
use Rattle.foreign_map.proofs.Owned.{owners_above, owners_apart, owners_are, owners_may, owners_no_frames, owners_no_tables, owners_serve, owners_stop, owners_twin}
use Rattle.foreign_map.proofs.owners.owner_for.Goals as goal

-- ---- by the steps
pub returns-then-foreign-clause-found : goal.returns-then-foreign-clause-found
returns-then-foreign-clause-found g c = owners_above (g.P.Port.value c.args.port.now) c.args.caller c.args.foreign c.if-foreign.true

pub returns-in_err-tables-clause-found : goal.returns-in_err-tables-clause-found
returns-in_err-tables-clause-found g c =
    let v = g.P.Port.value c.args.port.now in
    let u = g.P.Port.value c.admit.new.port in
    let answer = err_from_is_err_and c.from_residual.result c.from_residual.ensures.1 in
    subst (λ (r : Result Owners Refusal). FoundOwners v u c.args.caller c.args.foreign r) (sym (answer.1 ∙ ap Err answer.2))
    (owners_no_tables v c.args.caller c.args.foreign c.if-foreign.false u c.in_err-tables.field-0.0 (subst (λ k. AdmitsFound v u c.args.caller k (Err c.in_err-tables.field-0.0)) c.tables_of.ensures c.in_err-tables.ensures.steps))

pub returns-in_err-frames-clause-found : goal.returns-in_err-frames-clause-found
returns-in_err-frames-clause-found g c =
    let v = g.P.Port.value c.args.port.now in
    let u = g.P.Port.value c.admit.new.port in
    let y = g.P.Port.value c.admit-2.new.port in
    let answer = err_from_is_err_and c.from_residual-in_err-frames.result c.from_residual-in_err-frames.ensures.1 in
    subst (λ (r : Result Owners Refusal). FoundOwners v y c.args.caller c.args.foreign r) (sym (answer.1 ∙ ap Err answer.2))
    (owners_no_frames v c.args.caller c.args.foreign c.if-foreign.false u c.in_ok-tables.tables (subst (λ k. AdmitsFound v u c.args.caller k (Ok c.in_ok-tables.tables)) c.tables_of.ensures c.in_ok-tables.ensures.steps) y
    c.in_err-frames.field-0.0 (subst (λ k. AdmitsFound u y c.args.caller k (Err c.in_err-frames.field-0.0)) c.frames_of.ensures c.in_err-frames.ensures.steps))

pub returns-in_err-allow-clause-found : goal.returns-in_err-allow-clause-found
returns-in_err-allow-clause-found g c =
    let v = g.P.Port.value c.args.port.now in
    let u = g.P.Port.value c.admit.new.port in
    let y = g.P.Port.value c.admit-2.new.port in
    let w = g.P.Port.value c.allow.new.port in
    let answer = err_from_is_err_and c.from_residual-in_err-allow.result c.from_residual-in_err-allow.ensures.1 in
    subst (λ (r : Result Owners Refusal). FoundOwners v w c.args.caller c.args.foreign r) (sym (answer.1 ∙ ap Err answer.2))
    (owners_apart v c.args.caller c.args.foreign c.if-foreign.false u c.in_ok-tables.tables (subst (λ k. AdmitsFound v u c.args.caller k (Ok c.in_ok-tables.tables)) c.tables_of.ensures c.in_ok-tables.ensures.steps) y
    c.in_ok-frames.frames (subst (λ k. AdmitsFound u y c.args.caller k (Ok c.in_ok-frames.frames)) c.frames_of.ensures c.in_ok-frames.ensures.steps) w c.in_err-allow.field-0.0 c.in_err-allow.ensures.steps)

pub returns-clause-found : goal.returns-clause-found
returns-clause-found g c =
    let v = g.P.Port.value c.args.port.now in
    let u = g.P.Port.value c.admit.new.port in
    let y = g.P.Port.value c.admit-2.new.port in
    let w = g.P.Port.value c.allow.new.port in
    owners_are v c.args.caller c.args.foreign c.if-foreign.false u c.in_ok-tables.tables (subst (λ k. AdmitsFound v u c.args.caller k (Ok c.in_ok-tables.tables)) c.tables_of.ensures c.in_ok-tables.ensures.steps) y
    c.in_ok-frames.frames (subst (λ k. AdmitsFound u y c.args.caller k (Ok c.in_ok-frames.frames)) c.frames_of.ensures c.in_ok-frames.ensures.steps) w c.in_ok-allow.ensures.steps

-- ---- and by them, all else
pub returns-then-foreign-clause-serves : goal.returns-then-foreign-clause-serves
returns-then-foreign-clause-serves g c = owners_serve _ _ _ _ _ (returns-then-foreign-clause-found g c)

pub returns-then-foreign-clause-stops : goal.returns-then-foreign-clause-stops
returns-then-foreign-clause-stops g c = owners_stop _ _ _ _ _ c.requires.own (returns-then-foreign-clause-found g c)

pub returns-in_err-tables-clause-serves : goal.returns-in_err-tables-clause-serves
returns-in_err-tables-clause-serves g c = owners_serve _ _ _ _ _ (returns-in_err-tables-clause-found g c)

pub returns-in_err-tables-clause-stops : goal.returns-in_err-tables-clause-stops
returns-in_err-tables-clause-stops g c = owners_stop _ _ _ _ _ c.requires.own (returns-in_err-tables-clause-found g c)

pub returns-in_err-tables-clause-plain : goal.returns-in_err-tables-clause-plain
returns-in_err-tables-clause-plain g c = owners_twin _ _ _ _ _ (returns-in_err-tables-clause-found g c)

pub returns-in_err-frames-clause-serves : goal.returns-in_err-frames-clause-serves
returns-in_err-frames-clause-serves g c = owners_serve _ _ _ _ _ (returns-in_err-frames-clause-found g c)

pub returns-in_err-frames-clause-stops : goal.returns-in_err-frames-clause-stops
returns-in_err-frames-clause-stops g c = owners_stop _ _ _ _ _ c.requires.own (returns-in_err-frames-clause-found g c)

pub returns-in_err-frames-clause-plain : goal.returns-in_err-frames-clause-plain
returns-in_err-frames-clause-plain g c = owners_twin _ _ _ _ _ (returns-in_err-frames-clause-found g c)

pub returns-in_err-allow-clause-serves : goal.returns-in_err-allow-clause-serves
returns-in_err-allow-clause-serves g c = owners_serve _ _ _ _ _ (returns-in_err-allow-clause-found g c)

pub returns-in_err-allow-clause-stops : goal.returns-in_err-allow-clause-stops
returns-in_err-allow-clause-stops g c = owners_stop _ _ _ _ _ c.requires.own (returns-in_err-allow-clause-found g c)

pub returns-in_err-allow-clause-plain : goal.returns-in_err-allow-clause-plain
returns-in_err-allow-clause-plain g c = owners_twin _ _ _ _ _ (returns-in_err-allow-clause-found g c)

pub returns-clause-serves : goal.returns-clause-serves
returns-clause-serves g c = owners_serve _ _ _ _ _ (returns-clause-found g c)

pub returns-clause-plain : goal.returns-clause-plain
returns-clause-plain g c = owners_twin _ _ _ _ _ (returns-clause-found g c)

pub returns-clause-may : goal.returns-clause-may
returns-clause-may g c =
    let v = g.P.Port.value c.args.port.now in
    let first = c.in_ok-tables.ensures.hand in
    owners_may v (g.P.Port.value c.allow.new.port) c.args.caller c.args.foreign (record { tables = c.in_ok-tables.tables; frames = c.in_ok-frames.frames }) (c.in_ok-allow.ensures.hand ∙ c.in_ok-frames.ensures.hand ∙ first)
    c.in_ok-tables.ensures.real (subst (λ (o : Post). c.in_ok-frames.frames < length o.machine.page_limit) (ap (λ (q : PortValue). q.post) first) c.in_ok-frames.ensures.real) (returns-clause-found g c)
