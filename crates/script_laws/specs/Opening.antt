-- A script at its beginning and at its end.
use Rattle.std.specs.Prelude.{◌≡◌, false, []}
use Rattle.xp_words.specs.Places.{run_of}
use Rattle.xp_board.specs.Told.{PortValue, told_word}
use Rattle.table_words.specs.OldWords.{old_place}
use Rattle.table_words.specs.declared.old_words.OldWord.TheVariants.{First, Second}
use Rattle.script_law.specs.Shown.{Shows}
use Rattle.script_law.specs.Values.{Solo}
use Rattle.solo_ports.specs.Standing.{Clean, whose}
use Rattle.vcpu_turn.specs.Cpus.{Processing, begun}

-- Nothing is left to be settled, the words are those of x, in which the domain of the vCPU lives; and nothing of its script is done.
pub record OpensScript (c : Processing) (v : PortValue) (x : Solo) : Type 0 where
  pub clean : Clean v x
  pub alive : x.lives (whose v).domain ≡ 0
  pub domain : c.domain ≡ (whose v).domain
  pub no_line : c.log ≡ []
  pub none : c.answered ≡ 0
  pub at : c.at ≡ begun
  pub on : c.retired ≡ false

-- the vCPU is stopped, nothing is left to be settled, and its words show the value
pub record IsStoppedAt (w : PortValue) (x : Solo) : Type 0 where
  pub shows : Shows w.post.machine w.post.vcpu (told_word w) x
  pub first : told_word w (old_place w.post.vcpu First) ≡ 0
  pub second : told_word w (old_place w.post.vcpu Second) ≡ 0
  pub stopped : told_word w (run_of w.post.vcpu) ≡ 1
