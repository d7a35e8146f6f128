-- What holds of each reference in a hand holds still, where a demand or a name goes out of it, or comes in and the new one has it.
use Rattle.std.proofs.Common.{◌≡◌, ℕ, refl, Bool, zero, suc}
use Rattle.xp_words.specs.declared.kind.PageType.{PageType}
use Rattle.xp_words.specs.declared.entry.Demand.{Demand}
use Rattle.xp_words.specs.declared.entry.Demand.TheVariants.{Nothing, Bad, Read, Typed}
use Rattle.xp_board.specs.declared.holdings.Reference.{Reference}
use Rattle.xp_board.specs.declared.holdings.TypedReference.{TypedReference}
use Rattle.xp_board.specs.declared.holdings.Holdings.{Holdings}
use Rattle.xp_board.specs.Lists.{EachOf}
use Rattle.xp_board.specs.Hands.{brought, brought_as, brought_name}
use Rattle.xp_board.specs.Settling.{demand_in, demand_out}
use Rattle.xp_board.proofs.HandLists.{EachOf-more, EachOf-without}
use Rattle.xp_board.specs.ContextSteps.{context_type, named_in, named_out}

pub refs_out : (P : Reference → Type 0) (d : Demand) (a : Holdings) → EachOf P a.refs → EachOf P (demand_out d a).refs
refs_out P (Read g) a h = EachOf-without P (λ e. e.frame) g a.refs h
refs_out P (Typed g t) a h = h
refs_out P Nothing a h = h
refs_out P Bad a h = h

pub typed_out : (P : TypedReference → Type 0) (d : Demand) (a : Holdings) → EachOf P a.typed → EachOf P (demand_out d a).typed
typed_out P (Typed g t) a h = EachOf-without P (λ e. e.frame) g a.typed h
typed_out P (Read g) a h = h
typed_out P Nothing a h = h
typed_out P Bad a h = h

pub refs_in : (sure : Bool) (P : Reference → Type 0) (d : Demand) (a : Holdings) → ((g : ℕ) → P (brought g a)) → EachOf P a.refs → EachOf P (demand_in sure d a).refs
refs_in sure P (Read g) a new h = EachOf-more P (brought g a) a.refs (new g) h
refs_in sure P (Typed g t) a new h = h
refs_in sure P Nothing a new h = h
refs_in sure P Bad a new h = h

pub typed_in : (sure : Bool) (P : TypedReference → Type 0) (d : Demand) (a : Holdings) → ((g : ℕ) (t : PageType) → d ≡ Typed g t → P (brought_as sure g t a)) → EachOf P a.typed → EachOf P (demand_in sure d a).typed
typed_in sure P (Typed g t) a new h = EachOf-more P (brought_as sure g t a) a.typed (new g t refl) h
typed_in sure P (Read g) a new h = h
typed_in sure P Nothing a new h = h
typed_in sure P Bad a new h = h

pub typed_named_out : (P : TypedReference → Type 0) (w : ℕ) (a : Holdings) → EachOf P a.typed → EachOf P (named_out w a).typed
typed_named_out P zero a h = h
typed_named_out P (suc f) a h = EachOf-without P (λ e. e.frame) f a.typed h

pub typed_named_in : (P : TypedReference → Type 0) (k w : ℕ) (a : Holdings) → ((f : ℕ) → w ≡ suc f → P (brought_name f (context_type k) a)) → EachOf P a.typed → EachOf P (named_in k w a).typed
typed_named_in P k zero a new h = h
typed_named_in P k (suc f) a new h = EachOf-more P (brought_name f (context_type k) a) a.typed (new f refl) h
