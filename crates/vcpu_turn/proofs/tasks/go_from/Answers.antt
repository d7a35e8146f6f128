use Rattle.std.proofs.Common.{Some, ap, ◌∙◌}
use Rattle.xp_preempt.proofs.Consulting.{past_none}
use Rattle.vcpu_turn.specs.Cpus.{OfDescriptors, OfExt, OfMapping, OfPairs, OfRead, OfWrite, viewed, viewed_descriptors}
use Rattle.vcpu_turn.specs.declared.tasks.Viewed.{Viewed}
use Rattle.vcpu_turn.proofs.Awaiting.{built_awaits, ext_awaits, mapping_awaits}
use Rattle.vcpu_turn.proofs.Operations.{built, built_extents, not_built, read_not_due, without_value, write_not_due}
use Rattle.vcpu_turn.proofs.tasks.go_from.Goals as goal

pub returns-in-None-clause-went : goal.returns-in-None-clause-went
returns-in-None-clause-went g c = not_built c.in-None.ensures.none

-- ---- pairs
pub returns-in-Some-Pairs-clause-went : goal.returns-in-Some-Pairs-clause-went
returns-in-Some-Pairs-clause-went g c =
    built (OfPairs c.in-Some-Pairs.foreign c.in-Some-Pairs.pairs.now) (c.in-Some-Pairs.ensures.some ∙ ap (λ (l : Viewed). Some (viewed l)) c.in-Some-Pairs.field-0-is) tt
    (without_value c.go_through_pairs.result c.valued.ensures c.go_through_pairs.ensures.works)

-- ---- elements
pub returns-in-Some-Ext-clause-awaits : goal.returns-in-Some-Ext-clause-awaits
returns-in-Some-Ext-clause-awaits g c =
    built_awaits _ (OfExt c.in-Some-Ext.elements.now) (c.in-Some-Ext.ensures.some ∙ ap (λ (l : Viewed). Some (viewed l)) c.in-Some-Ext.field-0-is) (g.P.Port.value c.go_through.new.port) c.go_through.new.done c.valued-in-Some-Ext.result
    (ext_awaits _ _ _ _ _ _ (g.P.Port.value c.go_through.new.port) _ c.go_through.result c.valued-in-Some-Ext.result c.valued-in-Some-Ext.ensures c.go_through.ensures.works.course)

pub returns-in-Some-Ext-clause-went : goal.returns-in-Some-Ext-clause-went
returns-in-Some-Ext-clause-went g c =
    built (OfExt c.in-Some-Ext.elements.now) (c.in-Some-Ext.ensures.some ∙ ap (λ (l : Viewed). Some (viewed l)) c.in-Some-Ext.field-0-is) tt
    (without_value c.go_through.result c.valued-in-Some-Ext.ensures c.go_through.ensures.works)

-- ---- extents
pub returns-in-Some-Mem-clause-went : goal.returns-in-Some-Mem-clause-went
returns-in-Some-Mem-clause-went g c =
    built_extents c.in-Some-Mem.command c.in-Some-Mem.order c.in-Some-Mem.items.now (c.in-Some-Mem.ensures.some ∙ ap (λ (l : Viewed). Some (viewed l)) c.in-Some-Mem.field-0-is) c.go_through_extents.result c.valued-in-Some-Mem.ensures c.go_through_extents.ensures.works

-- ---- updates by address
pub returns-in-Some-Mapping-clause-awaits : goal.returns-in-Some-Mapping-clause-awaits
returns-in-Some-Mapping-clause-awaits g c =
    let m = c.in-Some-Mapping.mapping in
    built_awaits _ (OfMapping m.foreign m.va m.word m.flags) (c.in-Some-Mapping.ensures.some ∙ ap (λ (l : Viewed). Some (viewed l)) c.in-Some-Mapping.field-0-is) (g.P.Port.value c.map_word.new.port) c.map_word.new.done c.valued-in-Some-Mapping.result
    (mapping_awaits m.foreign m.va m.word m.flags c.map_word.new.done (g.P.Port.value c.map_word.new.port) c.map_word.result c.valued-in-Some-Mapping.result c.valued-in-Some-Mapping.ensures c.map_word.ensures.awaits)

pub returns-in-Some-Mapping-clause-went : goal.returns-in-Some-Mapping-clause-went
returns-in-Some-Mapping-clause-went g c =
    let m = c.in-Some-Mapping.mapping in
    built (OfMapping m.foreign m.va m.word m.flags) (c.in-Some-Mapping.ensures.some ∙ ap (λ (l : Viewed). Some (viewed l)) c.in-Some-Mapping.field-0-is) tt
    (without_value c.map_word.result c.valued-in-Some-Mapping.ensures c.map_word.ensures.works)

-- ---- descriptor tables
pub returns-in-Some-Descriptors-clause-went : goal.returns-in-Some-Descriptors-clause-went
returns-in-Some-Descriptors-clause-went g c =
    built (OfDescriptors (viewed_descriptors c.in-Some-Descriptors.tables)) (c.in-Some-Descriptors.ensures.some ∙ ap (λ (l : Viewed). Some (viewed l)) c.in-Some-Descriptors.field-0-is) tt
    (without_value c.work_on_descriptors.result c.valued-in-Some-Descriptors.ensures (past_none c.work_on_descriptors.ensures.undue c.work_on_descriptors.ensures.works))

-- ---- accesses
pub returns-in-Some-Read-clause-went : goal.returns-in-Some-Read-clause-went
returns-in-Some-Read-clause-went g c =
    built (OfRead c.in-Some-Read.user c.in-Some-Read.va) (c.in-Some-Read.ensures.some ∙ ap (λ (l : Viewed). Some (viewed l)) c.in-Some-Read.field-0-is) tt
    (past_none (read_not_due c.read.result c.read.ensures.reads.kinds) c.read.ensures.reads)

pub returns-in-Some-Write-clause-went : goal.returns-in-Some-Write-clause-went
returns-in-Some-Write-clause-went g c =
    built (OfWrite c.in-Some-Write.user c.in-Some-Write.va c.in-Some-Write.val) (c.in-Some-Write.ensures.some ∙ ap (λ (l : Viewed). Some (viewed l)) c.in-Some-Write.field-0-is) tt
    (without_value c.write.result c.valued-in-Some-Write.ensures (past_none (write_not_due c.write.result c.write.ensures.writes.kinds) c.write.ensures.writes))
