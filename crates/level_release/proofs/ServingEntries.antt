-- The steps at the last recorded entry of the innermost table go on with a call that asked the tables that are being released.
use Rattle.std.proofs.Common.{ℕ, List, [], ◌∷◌, ◌++◌, Some, refl, subst}
use Rattle.xp_words.specs.Entries.{below}
use Rattle.xp_words.specs.declared.kind.PageType.{PageType}
use Rattle.xp_words.specs.declared.reply.Pause.TheVariants.{Busy, Lost}
use Rattle.xp_words.specs.declared.reply.Stop.{Stop}
use Rattle.xp_words.specs.declared.reply.Stop.TheVariants.{Paused}
use Rattle.xp_board.specs.Told.{Post, PortValue}
use Rattle.step_maker.specs.Moves.{Met}
use Rattle.step_maker.proofs.Coming.{came_post, met_after}
use Rattle.step_maker.specs.Answers.{Deed, Serves, Stops}
use Rattle.step_maker.specs.Asked.{Asked, IsAsked, Request, Within, of}
use Rattle.step_maker.proofs.Later.{IsUncounted, stops_later}
use Rattle.step_maker.proofs.Piecing.{serves_came, serves_inner}
use Rattle.table_entries.specs.Asking.{AsksBelow, of_entries}
use Rattle.table_entries.proofs.PiecesWithin.{within_entries}
use Rattle.table_releases.specs.Tops.{IsReleaseStop}
use Rattle.partial_state.specs.declared.stack.TableWork.{TableWork}
use Rattle.level_release.specs.Asking.{IsReleasePiece}
use Rattle.level_release.proofs.Serving.{piece_later}

-- ---- behind a piece, a call on the entries of the tables in the own works
module _ {u v : PortValue} (w : PortValue) {r : Request} {ts : List TableWork} {ds : List Deed} (a : IsReleasePiece u v r ts ds) where
  entries_in : Within u.post.machine u.post.vcpu (of_entries r.owner r.pages_of) (Met v w) r (Met u w)
  entries_in = within_entries u.post.machine u.post.vcpu r.owner r (Met v w) (Met u w) (λ m x. met_after u v w m (serves_came u v r ds a.serves) x) a.entries refl

  pub piece_entries : (es : List Deed) → Serves v w (of_entries r.owner r.pages_of) es → IsReleasePiece u w r ts (es ++ ds)
  piece_entries es b = piece_later a (serves_came v w (of_entries r.owner r.pages_of) es b) (serves_inner u v w r (of_entries r.owner r.pages_of) ds es entries_in a.serves b)

  -- what an entry asks there is asked of the whole call
  entries_ask : (k : PageType) (f : ℕ) → AsksBelow v w r.owner r.pages_of k f → IsAsked u.post.machine u.post.vcpu r (Met u w) f
  entries_ask k f asks =
      of r.owner (Some (below k))
      (entries_in.asked f r.owner (Some (below k))
      (subst (λ (p : Post). Asked p.machine p.vcpu (of_entries r.owner r.pages_of) (Met v w) f r.owner (Some (below k))) (came_post u v (serves_came u v r ds a.serves)) asks))

  -- its frame is a table that is to be released first
  pub piece_opened : (t : TableWork) (k : PageType) → Serves v w (of_entries r.owner r.pages_of) [] → AsksBelow v w r.owner r.pages_of k t.frame → IsReleasePiece u w r (t ∷ ts) ds
  piece_opened t k serves asks =
      let b = piece_entries [] serves in
      record { entries = b.entries; serves = b.serves; asked = (entries_ask k t.frame asks, b.asked) }

  -- why it stops
  pub entries_stop : (e : Stop) → IsUncounted e → Stops v w (of_entries r.owner r.pages_of) e → Stops u w r e
  entries_stop e is stops = stops_later u v w r (of_entries r.owner r.pages_of) e is entries_in (serves_came u v r ds a.serves) stops

pub release_uncounted : (e : Stop) → IsReleaseStop e → IsUncounted e
release_uncounted (Paused (Lost place e x)) is = tt
release_uncounted (Paused (Busy f x)) is = tt
release_uncounted _ is = absurd is
