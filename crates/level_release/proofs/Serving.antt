-- What the steps on tables that are being released are to a call that asked these tables.
use Rattle.std.proofs.Common.{◌≡◌, ℕ, List, [], ◌∷◌, Some, None, ap, inl}
use Rattle.xp_words.specs.Machine.{Machine}
use Rattle.xp_words.specs.declared.place.Place.TheVariants.{Clock}
use Rattle.xp_board.specs.declared.step.Act.TheVariants.{Load, Store}
use Rattle.xp_board.specs.declared.step.Mark.TheVariants.{Record}
use Rattle.xp_board.specs.declared.step.StepKind.TheVariants as kinds
use Rattle.xp_board.specs.Told.{Post, PortValue}
use Rattle.step_maker.specs.Moves.{Came, Met, Moment, Moves}
use Rattle.step_maker.proofs.Coming.{came_post, met_before, moves_came}
use Rattle.step_maker.specs.Answers.{Deed, Serves}
use Rattle.step_maker.specs.Asked.{IsAsked, Request, of_back}
use Rattle.step_maker.specs.Finding.{Finding}
use Rattle.step_maker.proofs.Growing.{asks}
use Rattle.step_maker.proofs.Piecing.{same_request, serves_back, serves_came, serves_step}
use Rattle.table_words.specs.OldWords.{old_place}
use Rattle.table_words.specs.declared.old_words.OldWord.TheVariants.{First}
use Rattle.partial_state.specs.declared.stack.TableWork.{TableWork}
use Rattle.level_release.specs.Asking.{AskTables, IsReleasePiece}

-- ---- asked tables
-- what is asked stays asked where more is found
pub asked_later : (n : Machine) (s : ℕ) (r : Request) (F G : Finding) → ((m : Moment) → F m → G m) → (ts : List TableWork) → AskTables n s r F ts → AskTables n s r G ts
asked_later n s r F G more [] asked = asked
asked_later n s r F G more (t ∷ ts) asked = (asks n s r F r G (same_request n s r F G more) t.frame asked.0, asked_later n s r F G more ts asked.1)

-- ---- pieces
-- the same steps, with other tables that are asked
pub piece_of : {u v : PortValue} {r : Request} {ts us : List TableWork} {ds : List Deed} → (AskTables u.post.machine u.post.vcpu r (Met u v) ts → AskTables u.post.machine u.post.vcpu r (Met u v) us) → IsReleasePiece u v r ts ds →
    IsReleasePiece u v r us ds
piece_of less a = record { entries = a.entries; serves = a.serves; asked = less a.asked }

pub piece_rest : {u v : PortValue} {r : Request} {t : TableWork} {ts : List TableWork} {ds : List Deed} → IsReleasePiece u v r (t ∷ ts) ds → IsReleasePiece u v r ts ds
piece_rest {u} {v} {r} {t} {ts} {ds} a = piece_of (λ asked. asked.1) a

-- more steps, which serve too
pub piece_later : {u v w : PortValue} {r : Request} {ts : List TableWork} {ds es : List Deed} → IsReleasePiece u v r ts ds → Came v w → Serves u w r es → IsReleasePiece u w r ts es
piece_later {u} {v} {w} {r} {ts} a came serves =
    record { entries = a.entries; serves = serves; asked = asked_later u.post.machine u.post.vcpu r (Met u v) (Met u w) (λ m x. met_before u v w m x came) ts a.asked }

module _ {u v : PortValue} (w : PortValue) {r : Request} {ts : List TableWork} {ds : List Deed} (a : IsReleasePiece u v r ts ds) where
  -- the clock is loaded, with no mark or one that no guest sees
  pub piece_looks : {clock : ℕ} → Moves v w Clock Load kinds.Look None clock → IsReleasePiece u w r ts ds
  piece_looks {clock} look = piece_later a (moves_came v w Clock Load kinds.Look None clock look) (serves_step u v w r ds Clock Load kinds.Look None clock a.serves look tt)

  pub piece_records : {f upto clock : ℕ} → Moves v w Clock Load kinds.Look (Some (Record f upto)) clock → IsReleasePiece u w r ts ds
  piece_records {f} {upto} {clock} look =
      piece_later a (moves_came v w Clock Load kinds.Look (Some (Record f upto)) clock look) (serves_step u v w r ds Clock Load kinds.Look (Some (Record f upto)) clock a.serves look tt)

  -- a frame goes into the own first old word
  pub piece_names : {word : ℕ} → Moves v w (old_place v.post.vcpu First) (Store word) kinds.Context None 0 → IsReleasePiece u w r ts ds
  piece_names {word} store =
      let same : v.post.vcpu ≡ u.post.vcpu = ap (λ (p : Post). p.vcpu) (came_post u v (serves_came u v r ds a.serves)) in piece_later a (moves_came v w _ _ _ _ 0 store)
      (serves_step u v w r ds (old_place v.post.vcpu First) (Store word) kinds.Context None 0 a.serves store (inl (same, inl (λ e. absurd cc))))

module _ {u v : PortValue} (w : PortValue) {r : Request} {t : TableWork} {ts : List TableWork} {ds : List Deed} (a : IsReleasePiece u v r (t ∷ ts) ds) (came : Came v w) where
  -- the innermost table is asked still
  pub top_asked : IsAsked u.post.machine u.post.vcpu r (Met u w) t.frame
  top_asked = (asked_later u.post.machine u.post.vcpu r (Met u v) (Met u w) (λ m x. met_before u v w m x came) (t ∷ ts) a.asked).0

-- its reference is given back
pub piece_back : {u v w : PortValue} {r : Request} {t : TableWork} {ts : List TableWork} {ds : List Deed} → IsReleasePiece u v r (t ∷ ts) ds → Serves v w (of_back t.frame) [] → IsReleasePiece u w r (t ∷ ts) ds
piece_back {u} {v} {w} {r} {t} {ts} {ds} a put =
    let came = serves_came v w (of_back t.frame) [] put in piece_later a came (serves_back u v w r ds [] a.serves t.frame (top_asked w a came) put)
