use Rattle.words.specs.Readers.{word_of}
use Rattle.wcsp.proofs.Headers.{heading_read, heads}
use Rattle.wcsp.proofs.heading.read_heading.Goals as goal

pub returns-clause-read : goal.returns-clause-read
returns-clause-read c =
    let s = c.args.reader.now in
    let s₁ = c.word.new.self in
    let s₂ = c.variables.new.reader in
    let s₃ = c.figure.new.self in
    let s₄ = c.up_to.new.self in
    let s₅ = c.figure-2.new.self in
    let k₁ = c.word.ensures.kept in
    let k₂ = c.variables.ensures.kept in
    let k₃ = c.figure.ensures.kept in
    let k₄ = c.up_to.ensures.kept in
    let name = word_of c.in_ok-word.field-0 in
    let v = c.in_ok-variables.variables in
    let l = c.in_ok-largest.largest in
    let f = c.in_ok-functions.functions in
    let u = c.in_ok-upper.upper in
    let e₁ = c.in_ok-word.ensures.read in
    let e₂ = c.in_ok-variables.ensures.read in
    let e₃ = c.in_ok-largest.ensures.read in
    let e₄ = c.in_ok-functions.ensures.read in
    let e₅ = c.in_ok-upper.ensures.read in (
      _,
      heading_read s s₁ s₂ s₃ s₄ s₅ name v l f u k₁ k₂ k₃ k₄ e₁ e₂ e₃ e₄ e₅,
      heads s s₁ s₂ s₃ s₄ s₅ name v l f u k₁ k₂ k₃ k₄ e₁ e₂ e₃ e₄ e₅,
    )
