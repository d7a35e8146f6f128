-- Progress: among more steps, and what an entry asks of which a table in the own works was read.
use Rattle.std.proofs.Common.{◌≡◌, ℕ, true, false, Option, Some, refl}
use Rattle.xp_words.specs.Entries.{demand_at}
use Rattle.xp_words.specs.KindWords.{kind_fields}
use Rattle.xp_words.specs.PageTypes.{is_table}
use Rattle.xp_words.specs.declared.entry.Demand.{Demand}
use Rattle.xp_board.specs.declared.holdings.Lock.{Lock}
use Rattle.xp_board.specs.declared.holdings.Work.{Work}
use Rattle.xp_board.specs.Told.{PortValue}
use Rattle.step_maker.specs.Moves.{Came, Met, Moment}
use Rattle.step_maker.proofs.Coming.{met_after, met_before}
use Rattle.step_maker.specs.Asked.{demand_by}
use Rattle.step_maker.specs.Finding.{Finding}
use Rattle.step_maker.specs.Pauses.{Progress, entry, settles, counts}

-- ---- among more steps
pub progress_in : (F G : Finding) → ((m : Moment) → F m → G m) → Progress F → Progress G
progress_in F G more (entry m a b) = entry m (more m a) b
progress_in F G more (settles m f t x e s a b c d i j k l) = settles m f t x e s (more m a) b c d i j k l
progress_in F G more (counts b m f t x y e s q r o a c d i j k l n p) = counts b m f t x y e s (more b q) r o (more m a) c d i j k l n p

pub progress_before : (v u w : PortValue) → Came u w → Progress (Met v u) → Progress (Met v w)
progress_before v u w came p = progress_in (Met v u) (Met v w) (λ m x. met_before v u w m x came) p

pub progress_after : (v u w : PortValue) → Came v u → Progress (Met u w) → Progress (Met v w)
progress_after v u w came p = progress_in (Met u w) (Met v w) (λ m x. met_after v u w m came x) p

-- ---- what an entry asks of a table in the own works, past its flush
pub held_by : (i word : ℕ) (o : Option Work) (e : Work) (k : Option Lock) (d : Demand) → o ≡ Some e → is_table (kind_fields e.word).kind ≡ true → (kind_fields e.word).unflushed ≡ false →
    demand_at (kind_fields e.word).kind i word ≡ d → demand_by i word o k ≡ Some d
held_by i word o e k d is table past asks = rw (is, table, past, asks) refl
