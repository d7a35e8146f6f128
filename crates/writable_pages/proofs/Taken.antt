-- A frame is taken as ordinary memory: by its calls, what the steps serve, and why it stops.
use Rattle.std.proofs.Common.{◌≡◌, ℕ, Bool, true, [], Some, Ok, Err, refl, subst, inl}
use Rattle.xp_words.specs.declared.kind.PageType.TheVariants.{Writable}
use Rattle.xp_words.specs.declared.reply.Stop.{Stop}
use Rattle.xp_board.specs.Told.{PortValue, is_telling, told_word}
use Rattle.step_maker.specs.Moves.{Came}
use Rattle.step_maker.specs.Plain.{Leaves}
use Rattle.step_maker.proofs.Coming.{came_trans}
use Rattle.step_maker.specs.Answers.{Serves, Stops, missed}
use Rattle.step_maker.specs.Asked.{of_back, of_frame}
use Rattle.step_maker.proofs.Piecing.{serves_came, stops_before}
use Rattle.frame_words.specs.Freeing.{Puts}
use Rattle.frame_words.specs.Plain.{put}
use Rattle.frame_types.specs.Found.{TakesFound}
use Rattle.frame_types.specs.Plain.{TwinTake}
use Rattle.frame_types.specs.Taking.{ShowsWait}
use Rattle.frame_types.specs.declared.taking.Taken.{Taken}
use Rattle.frame_types.specs.declared.taking.Taken.TheVariants.{Counted, Waiting}
use Rattle.frame_types.proofs.Serving.{back_serves}
use Rattle.table_entries.specs.Acquiring.{TookType}
use Rattle.writable_pages.specs.Pages.{LeftPage, ServesPage, TookPage, of_page, counted, untyped, waiting}
use Rattle.writable_pages.proofs.Asking.{page_serves, page_stops}

module _ (v u : PortValue) (f owner : ℕ) where
  -- ---- it is ordinary memory
  pub counted_serves : Serves v u (of_frame f owner (Some Writable)) [] → ServesPage {A = Unit {0}} v u f owner (Ok tt)
  counted_serves a = record { hidden = []; may = inl refl; serves = page_serves v u v f owner (Some Writable) refl [] a }

  pub type_took : (t s : Taken) → t ≡ s → TakesFound v u f owner Writable (Ok t) → TwinTake v u f Writable (Ok t) → ShowsWait v u f owner Writable t → TookType v u f owner 0 (Ok s)
  type_took t s is found plain waits = subst (λ y. TookType v u f owner 0 (Ok y)) is (record { found = found; plain = plain; stops = tt; waits = waits })

  pub counted_took : TookType v u f owner 0 (Ok Counted) → TookPage v f owner u (Ok tt)
  counted_took a = counted u a

  module _ (w : PortValue) (stop : Stop) where
    pub stops_page : Came u w → Stops v u (of_frame f owner (Some Writable)) stop → Stops v w (of_page v f owner) stop
    stops_page came a = page_stops v w v f owner (Some Writable) refl stop (stops_before v u w (of_frame f owner (Some Writable)) stop a came)

    -- ---- it waits
    pub waiting_took : (own : Bool) (stamp : ℕ) → TookType v u f owner 0 (Ok (Waiting own stamp stop)) → LeftPage u w f owner stamp own stop → TookPage v f owner w (Err stop)
    waiting_took own stamp a b = waiting u w own stamp stop a b

    -- ---- it is not to be had, and the reference given back
    module _ (serves : Serves v u (of_frame f owner (Some Writable)) (missed v.post.machine stop)) (back : Serves u w (of_back f) []) where
      pub untyped_serves : ServesPage {A = Unit {0}} v w f owner (Err stop)
      untyped_serves =
          record {
            hidden = [];
            may = inl refl;
            serves = page_serves v w v f owner (Some Writable) refl (missed v.post.machine stop) (back_serves v u w f owner Writable (missed v.post.machine stop) serves back);
          }

      pub untyped_came : Came v w
      untyped_came = came_trans v u w (serves_came v u (of_frame f owner (Some Writable)) (missed v.post.machine stop) serves) (serves_came u w (of_back f) [] back)

    pub untyped_took : TakesFound v u f owner Writable (Err stop) → TwinTake v u f Writable (Err stop) → Stops v u (of_frame f owner (Some Writable)) stop → Puts u w f → (is_telling u ≡ true → Leaves w (put f (told_word u))) → TookPage v f owner w (Err stop)
    untyped_took found plain stops puts leaves = untyped u w stop (record { found = found; plain = plain; stops = stops; waits = tt }) (record { found = puts; plain = leaves })
