-- Elements of lists that replies count as done.
use Rattle.std.specs.Prelude.{◌≡◌, ◌≢◌, ℕ, ◌+◌, ◌<◌, Contains, List, slice_get, Some}
use Rattle.xp_words.specs.declared.ops.Call.{Call}
use Rattle.xp_words.specs.declared.ops.Call.TheVariants.{Ext}
use Rattle.xp_words.specs.declared.ops.ExtOp.{ExtOp}
use Rattle.xp_words.specs.declared.ops.Op.{Op}
use Rattle.xp_words.specs.declared.ops.Op.TheVariants.{Multi, One}
use Rattle.xp_words.specs.declared.reply.LogLine.TheVariants.{Answer}
use Rattle.xp_words.specs.declared.reply.Reply.{Reply}
use Rattle.xp_words.specs.Machine.{Machine}
use Rattle.xp_board.specs.declared.holdings.Made.{Made}
use Rattle.xp_board.specs.declared.step.Step.{Step}
use Rattle.partial_state.specs.Levels.{level_type}
use Rattle.vcpu_turn.specs.Cpus.{Processing}
use Rattle.whole_trees.specs.Whole.{WasBase, WasPinned}

-- Under these numbers, from 1 on, a log answers this list of mmuext_op: it is that operation of the script, and then the second number is 0; or that call of
-- one that is a multicall.
pub data StandsAt (script : List Op) (op call : ℕ) (list : List ExtOp) : Type 0 where
  alone : (i : ℕ) → op ≡ i + 1 → call ≡ 0 → slice_get script i ≡ Some (One (Ext list)) → StandsAt script op call list
  called : (i j : ℕ) (calls : List Call) → op ≡ i + 1 → call ≡ j + 1 → slice_get script i ≡ Some (Multi calls) → slice_get calls j ≡ Some (Ext list) → StandsAt script op call list

-- The vCPU's log has that reply to such a list, and element k of the list is among the elements that the reply counts as done.
pub record RepliedElement (c : Processing) (e : ExtOp) : Type 0 where
  pub op : ℕ
  pub call : ℕ
  pub k : ℕ
  pub list : List ExtOp
  pub reply : Reply
  pub stands : StandsAt c.script op call list
  pub answered : Contains c.log (Answer op call reply)
  pub counted : k < reply.done
  pub element : slice_get list k ≡ Some e

-- By a step of vCPU s on a run what element e names was set: a pin (commands 0 to 3), of its frame as a table of its level; a new base of the kernel
-- (command 5); and one of the user (command 15), where it names a frame. At the moment behind that step the frame was whole.
pub record WasSet (n : Machine) (opening : List ℕ) (log : List (ℕ × Step)) (s : ℕ) (e : ExtOp) : Type 0 where
  -- between these steps of the vCPU's own, those before the element and those up to its end
  pub first : List Made
  pub last : List Made
  pub pin : e.command < 4 → WasPinned n opening log s first last e.first (level_type (e.command + 1))
  pub kernel : e.command ≡ 5 → WasBase n opening log s first last 0 e.first
  pub user : e.command ≡ 15 → e.first ≢ 0 → WasBase n opening log s first last 1 e.first
