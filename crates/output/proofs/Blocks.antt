-- Laws of a printer: pieces printed one after the other, and bytes put after those that are gathered. Assumes nothing.
use Prim.Native.Nat.{ℕ, ◌+◌, ◌≤◌, ◌<◌}
use mathlib.Core.Path.{◌≡◌, refl, sym, ap, ◌∙◌, subst}
use mathlib.Core.Bool.{Bool, true, false}
use mathlib.Core.Logic.{inl, inr}
use mathlib.Core.List.{List, [], ◌∷◌, ◌++◌, append_assoc, append-nil}
use native.Mathlib.Numerals.{add-one}
use native.Mathlib.Omega.{arith}
use native.Mathlib.Nat.{lt_of_not-le}
use lib.ListN.{length, get_or, set, take, length-append}
use lib.Seq.{length-take-le, take_all, take-suc, take-suc-set}
use borrow.Rule.Slice.PartMut.{put_mid}
use Rattle.std.proofs.lemmas.Slice.{take-put_mid}
use Rattle.output.specs.declared.printer.Printer.{Printer}
use Rattle.output.specs.Blocks.{gathered, HasRoom, InBlocks, Prints, Settled, Flushed, FlushedIfFull}

-- a printer that is open was open before it printed
open_before : {a b : Printer} {x : List ℕ} → Prints a b x → b.is_closed ≡ false → a.is_closed ≡ false
open_before {a} {b} p opened = go a.is_closed refl
  where
    go : (t : Bool) → a.is_closed ≡ t → a.is_closed ≡ false
    go true e = let same = ap (λ (q : Printer). q.is_closed) (p.closed e) in cc
    go false e = e

-- bytes put after those that are gathered
grown : {a b : Printer} (x : List ℕ) → HasRoom a x → b.is_closed ≡ a.is_closed → b.count ≡ a.count + length x → gathered b ≡ gathered a ++ x → Prints a b x
grown x room same count added =
    record {
      stays_open = λ h. same ∙ room.0;
      count = λ h. count;
      added = λ h. added;
      kept = λ h. record { blocks = 0; written = []; full = refl; rest = sym added };
      closed = λ h. let shut = sym room.0 ∙ h in cc;
    }

-- nothing printed
pub none : (a : Printer) → Prints a a []
none a =
    record {
      stays_open = λ h. h.0;
      count = λ h. omega arith;
      added = λ h. sym (append-nil _);
      kept = λ h. record { blocks = 0; written = []; full = refl; rest = append-nil _ };
      closed = λ h. refl;
    }

-- a closed printer prints nothing
pub lost : (a : Printer) (x : List ℕ) → a.is_closed ≡ true → Prints a a x
lost a x shut =
    record {
      stays_open = λ h. h.0;
      count = λ h. let opened = h.0 in cc;
      added = λ h. let opened = h.0 in cc;
      kept = λ h. cc;
      closed = λ h. refl;
    }

-- two pieces, one after the other
module _ {a b c : Printer} (x y : List ℕ) (p : Prints a b x) (q : Prints b c y) where
  both_room : HasRoom a (x ++ y) → HasRoom a x × HasRoom b y
  both_room h =
      let first : HasRoom a x = (h.0, omega (arith, length-append x y)) in
      (first, (p.stays_open first, omega (arith, length-append x y, p.count first)))

  both_kept : InBlocks (gathered a ++ x) b → InBlocks (gathered b ++ y) c → InBlocks (gathered a ++ (x ++ y)) c
  both_kept k l =
      record {
        blocks = k.blocks + l.blocks;
        written = k.written ++ l.written;
        full = omega (arith, length-append k.written l.written, k.full, l.full);
        rest =
            sym (append_assoc (gathered a) x y)
            ∙ ap (λ (r : List ℕ). r ++ y) k.rest
            ∙ append_assoc k.written (gathered b) y
            ∙ ap (λ (r : List ℕ). k.written ++ r) l.rest
            ∙ sym (append_assoc k.written l.written (gathered c));
      }

  pub both : Prints a c (x ++ y)
  both =
      record {
        stays_open = λ h. q.stays_open (both_room h).1;
        count = λ h. let r = both_room h in q.count r.1 ∙ omega (arith, p.count r.0, length-append x y);
        added = λ h. let r = both_room h in q.added r.1 ∙ ap (λ (l : List ℕ). l ++ y) (p.added r.0) ∙ append_assoc (gathered a) x y;
        kept = λ h. both_kept (p.kept (open_before q h)) (q.kept h);
        closed = λ h. q.closed (ap (λ (r : Printer). r.is_closed) (p.closed h) ∙ h) ∙ p.closed h;
      }

-- one byte more of a piece
pub piece_more : {a b c : Printer} (x : List ℕ) (i : ℕ) → i < length x → Prints a b (take i x) → Prints b c (get_or x i 0 ∷ []) → Prints a c (take (i + 1) x)
piece_more x i h p q = rw (add-one, take-suc x i 0 h) (both (take i x) (get_or x i 0 ∷ []) p q)

pub piece_whole : {a b : Printer} (x : List ℕ) (i : ℕ) → length x ≤ i → Prints a b (take i x) → Prints a b x
piece_whole x i h p = rw take_all at p

-- a piece put after what is gathered
pub piece_put : {a b : Printer} (x ys : List ℕ) (k : ℕ) → HasRoom a x → length a.bytes ≡ 8192 → ys ≡ x → b.is_closed ≡ a.is_closed
    → b.count ≡ a.count + length x → b.bytes ≡ put_mid a.count k a.bytes ys → Prints a b x
piece_put {a} {b} x ys k room whole copied same count put =
    let n : a.count + length x ≡ a.count + length ys = ap (λ (l : List ℕ). a.count + length l) (sym copied) in
    grown x room same count
    (ap (λ (l : List ℕ). take b.count l) put
    ∙ ap (λ (n : ℕ). take n (put_mid a.count k a.bytes ys)) count
    ∙ take-put_mid a.count k a.bytes ys _ n (omega arith)
    ∙ ap (λ (l : List ℕ). take a.count a.bytes ++ l) copied)

-- a byte stored after those that are gathered, where there was room, or there is after a full block was written
module _ (a m b : Printer) (x : ℕ) (whole : length a.bytes ≡ 8192) (whole_after : length m.bytes ≡ 8192) (opened : m.is_closed ≡ false)
    (same : b.is_closed ≡ m.is_closed) (count : b.count ≡ m.count + 1) (stored : b.bytes ≡ set m.bytes m.count x) where
  byte_added : m.count < 8192 → gathered b ≡ gathered m ++ (x ∷ [])
  byte_added room =
      ap (λ (l : List ℕ). take b.count l) stored
      ∙ ap (λ (n : ℕ). take n (set m.bytes m.count x)) count
      ∙ rw add-one (take-suc-set m.bytes m.count x (omega arith))

  byte_after : a.is_closed ≡ false → a.count ≡ 8192 → m.count ≡ 0 → Prints a b (x ∷ [])
  byte_after first full zero =
      record {
        stays_open = λ h. same ∙ opened;
        count = λ h. absurd (omega (arith, h.1));
        added = λ h. absurd (omega (arith, h.1));
        kept =
            λ h. record {
              blocks = 1;
              written = gathered a;
              full = length-take-le a.count a.bytes (omega arith) ∙ full;
              rest = ap (λ (l : List ℕ). gathered a ++ l) (sym (byte_added (omega arith) ∙ ap (λ (n : ℕ). take n m.bytes ++ (x ∷ [])) zero));
            };
        closed = λ h. let shut = sym first ∙ h in cc;
      }

  byte_written : (went_well : Bool) → Settled a m went_well → a.is_closed ≡ false → a.count ≡ 8192 → Prints a b (x ∷ [])
  byte_written true s first full = byte_after first full s.1
  byte_written false s first full = let shut = sym opened ∙ s.2 in cc

  byte_flushed : Flushed a m → a.count ≡ 8192 → (t : Bool) → a.is_closed ≡ t → Prints a b (x ∷ [])
  byte_flushed f full true e = let shut = sym opened ∙ ap (λ (p : Printer). p.is_closed) (f.closed e) ∙ e in cc
  byte_flushed f full false e = byte_written f.went_well (f.settles e) e full

  pub byte_put : FlushedIfFull a m → Prints a b (x ∷ [])
  byte_put (inl (full, f)) = byte_flushed f full a.is_closed refl
  byte_put (inr (other, unchanged)) =
      let room : m.count < 8192 = lt_of_not-le (λ g. other (sym (ap (λ (p : Printer). p.count) unchanged) ∙ omega (arith, m.fits))) in
      subst (λ (p : Printer). Prints p b (x ∷ [])) unchanged
      (grown (x ∷ []) (opened, omega arith) same (count ∙ omega arith) (byte_added room))
