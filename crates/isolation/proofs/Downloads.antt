-- Portions on the board, told by what each channel is fed, and a download while calls go on: each channel is as it would be alone. Assumes nothing.
use Prim.Native.Nat.{ℕ, ◌*◌}
use mathlib.Core.Path.{refl, ap, subst, ◌∙◌}
use mathlib.Core.Logic.{inr}
use mathlib.Core.Bool.{Bool}
use mathlib.Core.List.{List, [], ◌∷◌, ◌++◌}
use borrow.Author.Tests.{eq-eqb}
use Rattle.channel.specs.OneChannel.{OneChannel, transition, response, transitions}
use Rattle.channel.specs.OneChannel as to
use Rattle.histories.specs.History.{history}
use Rattle.histories.specs.Downloads.{open_over, NoneEnds}
use Rattle.histories.specs.Downloads as alone
use Rattle.histories.specs.Keeping.{kept_over}
use Rattle.histories.proofs.Downloads.{portions_told as told_alone, download_stays as stays_alone, opening_plain}
use Rattle.board_state.specs.Parts.{own}
use Rattle.board.specs.Answers.{one}
use Rattle.board.specs.Worlds.{World}
use Rattle.isolation.specs.Calls.{none, answer, world_after, opening}
use Rattle.isolation.specs.Feeding.{fed, view}
use Rattle.isolation.specs.Isolation.{one_channel_at, download_opening, Serves, PortionsTold, DownloadStays, DownloadAccepted}
use Rattle.isolation.proofs.Parts.{Number}
use Rattle.isolation.proofs.Isolation.{open_own}
use Rattle.isolation.proofs.Observing.{observe_opening}
use Rattle.isolation.proofs.Alone.{AsAlone, allowed_more, alone_after, called_after, query_alone}

-- a world in which channel c is as `o` is alone
serves_alone : (c m : ℕ) (h : Number c) (w : World) (o : OneChannel) (is_open : Bool) (words : List ℕ) → AsAlone c m w o → alone.Serves o m is_open words
    → Serves c w is_open words
serves_alone c m h w o is_open words a q =
    record {
      portion = λ index size. query_alone w o c m h a (to.portion index size) refl ∙ ap one (q.portion index size);
      lengths = λ index size. query_alone w o c m h a (to.portion_length index size) refl ∙ ap one (q.lengths index size);
    }

pub portions_told : PortionsTold
portions_told n m s r opens c low high xs a =
    let h : Number c = record { low = low; high = high } in
    let sets = own s (n * 16) c in
    let reads = own r (m * 2) c in
    serves_alone c m h (world_after (opening n m s r) xs) (transitions (one_channel_at c n m s r) (fed c xs)) (open_over n m sets reads (fed c xs))
    (kept_over n m sets reads (fed c xs)).retired (alone_after n m s r opens c h xs a)
    (told_alone n m sets reads (open_own n m s r opens c h).1 (fed c xs))

pub download_stays : DownloadStays
unfolding answer
download_stays n m s r opens c low high before later a ends =
    let h : Number c = record { low = low; high = high } in
    let w = world_after (opening n m s r) before in
    let o = transitions (one_channel_at c n m s r) (fed c before) in
    let x = called_after n m s r opens c h before (download_opening c) later a to.open_download (rw (eq-eqb c c refl)) in
    let q =
    stays_alone n m (own s (n * 16) c) (own r (m * 2) c) (open_own n m s r opens c h).1 (fed c before) (fed c later)
    (subst (λ (p : OneChannel). NoneEnds (history p (fed c later))) x.called.same ends) in
    record {
      words = q.words;
      retired_then = query_alone w o c m h x.at_call to.retired refl ∙ ap one q.retired_then;
      answered = ap one (observe_opening w c h none ∙ ap (λ (p : OneChannel). response p to.open_download) x.at_call.same ∙ q.answered);
      serves =
          serves_alone c m h (world_after (opening n m s r) (before ++ (download_opening c ∷ later))) (transitions (transition o to.open_download) (fed c later)) _ q.words
          x.at_last q.serves;
    }

pub download_accepted : DownloadAccepted
download_accepted n m s r c low high before a = (
  allowed_more (opening n m s r) before (download_opening c ∷ []) a (inr refl, tt),
  rw (eq-eqb c c refl),
  (opening_plain (view c (world_after (opening n m s r) before))).2,
)
