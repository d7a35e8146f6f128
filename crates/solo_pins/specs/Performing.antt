-- Elements of `mmuext_op` that are about tables and flushes: what their calls give, and what is kept of one that was paused.
use Rattle.std.specs.Prelude.{ℕ, ◌≤◌, Bool, List, Option, Some, None, Result, IfErr}
use Rattle.xp_words.specs.declared.reply.Stop.{Stop}
use Rattle.xp_board.specs.Told.{PortValue}
use Rattle.step_maker.specs.Holds.{Rests}
use Rattle.table_bases.specs.Asking.{user_frame}
use Rattle.mmuext_ops.specs.Course.{Performed}
use Rattle.mmuext_ops.specs.Elements.{IsElementStop, LeavesElement, ServesElement, StopsElement}
use Rattle.mmuext_ops.specs.declared.element.Element.{Element}
use Rattle.mmuext_ops.specs.declared.element.Element.TheVariants.{Pin, NewBase, NewUserBase, SetLdt, ClearPage, CopyPage}
use Rattle.script_law.specs.Values.{Solo}
use Rattle.solo_ports.specs.Standing.{KeepsTable, whose}

-- From v to w an element of domain d was done, or why not: what its call gives.
pub record IsPerformed (v w : PortValue) (d : ℕ) (e : Element) (awaited : Option ℕ) (answers : List Bool) (answer : Result (Unit {0}) Stop) : Type 0 where
  pub serves : ServesElement v w d e awaited answer
  pub stops : StopsElement v w d e awaited answer
  pub kinds : IfErr answer (IsElementStop e)
  pub hand : LeavesElement v w e answer
  pub rests : Rests w
  pub course : Performed v w d e awaited answers answer

-- It is about tables of levels 1 to 4, or translations, or is none that is known.
abbrev pub IsOnTables : Element → Type 0
IsOnTables (Pin f level) = (1 ≤ level) × (level ≤ 4)
IsOnTables (SetLdt address entries) = ⊥
IsOnTables (ClearPage f) = ⊥
IsOnTables (CopyPage to from) = ⊥
IsOnTables _ = Unit {0}

-- An acquisition of the table that it names was paused, and will go on: of a pin, or of a base that names one.
abbrev pub KeepsTop : Option ℕ → PortValue → Solo → Type 0
KeepsTop (Some f) v x = KeepsTable f (whose v).domain 4 v x
KeepsTop None v x = ⊥

abbrev pub KeepsPin : Element → PortValue → Solo → Type 0
KeepsPin (Pin f level) v x = KeepsTable f (whose v).domain level v x
KeepsPin (NewBase f) v x = KeepsTop (Some f) v x
KeepsPin (NewUserBase f) v x = KeepsTop (user_frame f) v x
KeepsPin _ v x = ⊥
