-- The own flush on a board that tells all words.
use Rattle.std.proofs.Common.{◌≡◌, ◌≢◌, ◌+◌, true, None, Ok, Err, Result, refl, sym, ap, ◌∙◌}
use Rattle.xp_words.specs.declared.place.Place.{Place}
use Rattle.xp_words.specs.declared.place.Place.TheVariants.{Clock, Pages, Life, Vcpu, Refs, Kind, M2p, Cell, Map, Priv}
use Rattle.xp_words.specs.declared.reply.Refusal.{Refusal}
use Rattle.xp_words.specs.declared.reply.Refusal.TheVariants as refusals
use Rattle.xp_words.specs.Places.{flushed_of}
use Rattle.xp_board.specs.declared.step.Act.TheVariants.{Load, Cas, Store}
use Rattle.xp_board.specs.declared.step.StepKind.TheVariants as kinds
use Rattle.xp_board.specs.Acts.{left_by}
use Rattle.xp_board.specs.Readings.{last_clock}
use Rattle.xp_board.specs.Told.{PortValue, is_telling, told_word}
use Rattle.step_maker.proofs.Telling.{moves_telling, told_there, told_here, told_elsewhere}
use Rattle.step_maker.specs.Twins.{Alike}
use Rattle.step_maker.proofs.Alikes.{alike_same}
use Rattle.flush_words.specs.Flushing.{FlushesOwn, spent}
use Rattle.flush_words.proofs.Flushed.{Flushed, own_flushed}
use Rattle.flush_words.proofs.OwnFlush.{to_next}

-- ---- the other words
flushed_elsewhere : (v w : PortValue) → Flushed v w → (q : Place) → q ≢ Clock → q ≢ flushed_of v.post.vcpu → told_word w q ≡ told_word v q
flushed_elsewhere v w f q off away =
    told_elsewhere f.exchanged w (flushed_of v.post.vcpu) (Store f.to) kinds.Ack None f.before f.ack q away
    ∙ told_elsewhere f.loaded f.exchanged Clock (Cas f.clock (f.clock + 1)) kinds.Tick None f.found f.tick q off
    ∙ told_elsewhere v f.loaded Clock Load kinds.Look None f.clock f.look q off

pub own_elsewhere : (v w : PortValue) (answer : Result (Unit {0}) Refusal) → FlushesOwn v w answer → (q : Place) → q ≢ Clock → q ≢ flushed_of v.post.vcpu → told_word w q ≡ told_word v q
own_elsewhere v w (Ok tt) f q off away = flushed_elsewhere v w (own_flushed v w f) q off away
own_elsewhere v w (Err e) (spent m) q off away = told_elsewhere v w Clock Load kinds.Look None last_clock m q off

pub own_alike : (v w : PortValue) (answer : Result (Unit {0}) Refusal) → FlushesOwn v w answer → Alike (told_word w) (told_word v)
own_alike v w answer f Clock = tt
own_alike v w answer f (Vcpu t k) = λ a b. own_elsewhere v w answer f (Vcpu t k) (λ e. cc) (λ e. let word : k ≡ 5 = cc in b word)
own_alike v w answer f (Pages d) = own_elsewhere v w answer f (Pages d) (λ e. cc) (λ e. cc)
own_alike v w answer f (Life d) = own_elsewhere v w answer f (Life d) (λ e. cc) (λ e. cc)
own_alike v w answer f (Refs g) = alike_same (Refs g) _ _ (own_elsewhere v w answer f (Refs g) (λ e. cc) (λ e. cc))
own_alike v w answer f (Kind g) = alike_same (Kind g) _ _ (own_elsewhere v w answer f (Kind g) (λ e. cc) (λ e. cc))
own_alike v w answer f (M2p g) = own_elsewhere v w answer f (M2p g) (λ e. cc) (λ e. cc)
own_alike v w answer f (Cell g i) = own_elsewhere v w answer f (Cell g i) (λ e. cc) (λ e. cc)
own_alike v w answer f (Map k) = own_elsewhere v w answer f (Map k) (λ e. cc) (λ e. cc)
own_alike v w answer f (Priv d) = own_elsewhere v w answer f (Priv d) (λ e. cc) (λ e. cc)

-- ---- the answer
pub own_refused : (v w : PortValue) (e : Refusal) → is_telling v ≡ true → FlushesOwn v w (Err e) → (told_word v Clock ≡ last_clock) × (e ≡ refusals.Clock last_clock)
own_refused v w e is (spent m) = (told_there v w Clock Load kinds.Look None last_clock m is, refl)

-- nobody else moves the clock on
flushed_exchanged : (v w : PortValue) (f : Flushed v w) → is_telling v ≡ true → f.found ≡ f.clock
unfolding left_by
flushed_exchanged v w f is =
    let telling = moves_telling v f.loaded Clock Load kinds.Look None f.clock f.look ∙ is in
    sym (told_there f.loaded f.exchanged Clock (Cas f.clock (f.clock + 1)) kinds.Tick None f.found f.tick telling) ∙ told_here v f.loaded Clock Load kinds.Look None f.clock f.look is

-- the clock was below its last value; it is one more, and the own flush goes to it
pub record Ticked (v w : PortValue) : Type 0 where
  pub some : told_word v Clock ≢ last_clock
  pub clock : told_word w Clock ≡ told_word v Clock + 1
  pub flushed : told_word w (flushed_of v.post.vcpu) ≡ told_word v Clock + 1

pub own_ticked : (v w : PortValue) → is_telling v ≡ true → FlushesOwn v w (Ok tt) → Ticked v w
unfolding left_by
own_ticked v w is flushes =
    let f = own_flushed v w flushes in
    let was = told_there v f.loaded Clock Load kinds.Look None f.clock f.look is in
    let loaded = moves_telling v f.loaded Clock Load kinds.Look None f.clock f.look ∙ is in
    let exchanged = moves_telling f.loaded f.exchanged Clock (Cas f.clock (f.clock + 1)) kinds.Tick None f.found f.tick ∙ loaded in
    let next : left_by (Cas f.clock (f.clock + 1)) f.found ≡ told_word v Clock + 1 =
    ap (λ y. left_by (Cas f.clock (f.clock + 1)) y) (flushed_exchanged v w f is) ∙ to_next f.clock ∙ ap (λ y. y + 1) (sym was) in
    record {
      some = λ e. f.some (sym was ∙ e);
      clock = told_elsewhere f.exchanged w (flushed_of v.post.vcpu) (Store f.to) kinds.Ack None f.before f.ack Clock (λ e. cc)
          ∙ told_here f.loaded f.exchanged Clock (Cas f.clock (f.clock + 1)) kinds.Tick None f.found f.tick loaded ∙ next;
      flushed = told_here f.exchanged w (flushed_of v.post.vcpu) (Store f.to) kinds.Ack None f.before f.ack exchanged ∙ sym f.left ∙ next;
    }

pub own_telling : (v w : PortValue) (answer : Result (Unit {0}) Refusal) → FlushesOwn v w answer → is_telling w ≡ is_telling v
own_telling v w (Ok tt) flushes =
    let f = own_flushed v w flushes in
    moves_telling f.exchanged w (flushed_of v.post.vcpu) (Store f.to) kinds.Ack None f.before f.ack
    ∙ moves_telling f.loaded f.exchanged Clock (Cas f.clock (f.clock + 1)) kinds.Tick None f.found f.tick
    ∙ moves_telling v f.loaded Clock Load kinds.Look None f.clock f.look
own_telling v w (Err e) (spent m) = moves_telling v w Clock Load kinds.Look None last_clock m
