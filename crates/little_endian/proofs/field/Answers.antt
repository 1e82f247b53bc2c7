-- `little_endian::field` meets its contract: one more byte is in its place. Assumes nothing.
use Rattle.std.proofs.Common.{rules, ℕ, ◌≡◌, ◌+◌, get_or, slice_set, ◌∙◌, arith}
use Rattle.std.proofs.lemmas.List.{get_or-set_same, get_or-set_other}
use borrow.Author.Count.{below_more}
use Rattle.little_endian.proofs.field.Goals as goal

pub loop-k-preserved : goal.loop-k-preserved
loop-k-preserved g c =
    let l = c.loop-k.field in
    let k = c.loop-k.k in
    let b = c.byte.result in (
      search rules,
      below_more (λ (j : ℕ). get_or (slice_set l k b) j 0 ≡ get_or c.args.bytes.now (c.args.at + j) 0) k
          (λ j h. get_or-set_other l k j b 0 (λ e. omega arith) ∙ c.loop-k.invariant.1 j h)
          (get_or-set_same l k b 0 (omega arith) ∙ c.byte.ensures),
    )
