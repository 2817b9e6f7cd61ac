use Rattle.std.proofs.Common.{◌≡◌, true, leb, List, sym, ap, ◌∙◌, arith}
use Rattle.std.proofs.lemmas.Bool.{le-leb}
use Rattle.problems.specs.Records.{Placed}
use Rattle.buckets.specs.Listed.{listed}
use Rattle.buckets.specs.Processed.{scopes_of}
use Rattle.buckets.specs.Sources.{short}
use Rattle.buckets.proofs.Listing.{short_all}
use Rattle.buckets.proofs.processing.suits.Goals as goal

pub returns-then-width-le-MOST_WIDTH : goal.returns-then-width-le-MOST_WIDTH
returns-then-width-le-MOST_WIDTH c =
    let w = c.args.width in
    let all : c.fits_width.result ≡ short w (scopes_of (listed c.args.functions.now)) =
    c.fits_width.ensures ∙ sym (short_all w c.as_slice.result.now) ∙ ap (λ (l : List Placed). short w (scopes_of l)) c.as_slice.ensures.records in
    let low : leb 1 w ≡ true = le-leb 1 w c.if-width-le-MOST_WIDTH.true.0 in
    let high : leb w 6 ≡ true = le-leb w 6 c.if-width-le-MOST_WIDTH.true.1 in
    grind arith
