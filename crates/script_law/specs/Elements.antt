-- The elements of lists.
use Rattle.std.specs.Prelude.{ℕ, Some}
use Rattle.xp_words.specs.declared.ops.ExtOp.{ExtOp}
use Rattle.xp_words.specs.declared.ops.Pair.{Pair}
use Rattle.xp_words.specs.declared.reply.Refusal.TheVariants.{BadCommand, BadRange}
use Rattle.foreign_map.specs.declared.owners.Owners.{Owners}
use Rattle.mmu_update.specs.Elements as pairs
use Rattle.mmu_update.specs.declared.element.Element as of_pairs
use Rattle.mmu_update.specs.declared.element.Element.TheVariants as updates
use Rattle.mmuext_ops.specs.Elements.{ext_element}
use Rattle.mmuext_ops.specs.declared.element.Element.{Element}
use Rattle.mmuext_ops.specs.declared.element.Element.TheVariants.{Pin, Unpin, NewBase, NewUserBase, FlushLocal, Invalidate, FlushVcpus, SetLdt, ClearPage, CopyPage, Unknown}
use Rattle.table_bases.specs.Asking.{user_frame}
use Rattle.script_law.specs.Frames.{pin, set_base, set_map, unpin, write_word}
use Rattle.script_law.specs.Pages.{clear_frame, copy_frame, set_ldt}
use Rattle.script_law.specs.Values.{Solo, Whose, Outcome, Numbers, did, stopped}

-- of `mmu_update`
abbrev pub updated : Whose → Owners → of_pairs.Element → Solo → Outcome
updated w o (updates.SetM2p f x) s = set_map w.machine o.frames f x s
updated w o (updates.Write f i word keep) s = write_word w.machine o f i word keep s
updated w o updates.Misaligned s = stopped (Numbers BadRange) s
updated w o updates.Unknown s = stopped (Numbers BadCommand) s

abbrev pub pair_alone : Whose → Owners → Pair → Solo → Outcome
pair_alone w o p s = updated w o (pairs.element_of p) s

-- of `mmuext_op`: of translations nothing is kept here, so what drops them does nothing
abbrev pub performed : Whose → Element → Solo → Outcome
performed w (Pin f level) s = pin w.machine w.domain f level s
performed w (Unpin f) s = unpin w.machine w.domain f s
performed w (NewBase f) s = set_base w.machine w.domain 0 (Some f) s
performed w (NewUserBase f) s = set_base w.machine w.domain 1 (user_frame f) s
performed w FlushLocal s = did s
performed w (Invalidate va) s = did s
performed w (FlushVcpus mask) s = did s
performed w (SetLdt address entries) s = set_ldt address entries s
performed w (ClearPage f) s = clear_frame w.machine w.domain f s
performed w (CopyPage to from) s = copy_frame w.machine w.domain to from s
performed w Unknown s = stopped (Numbers BadCommand) s

abbrev pub ext_alone : Whose → ExtOp → Solo → Outcome
ext_alone w op s = performed w (ext_element op) s
