use Rattle.std.proofs.Common.{◌≡◌, ◌+◌, ◌∙◌, arith}
use Rattle.std.proofs.lemmas.Result.{IfOk-weaker}
use Rattle.pkg_merkle.specs.Merkle.{block_input}
use Rattle.pkg_merkle.specs.Binding.{IsTop}
use Rattle.pkg_merkle.proofs.BindingLaw.{IsTop-one, IsTop-up, length-up}
use Rattle.pkg_merkle.proofs.binding.+top_input.Goals as goal

pub returns-then-bytes-le-BLOCK : goal.returns-then-bytes-le-BLOCK
returns-then-bytes-le-BLOCK t c =
    let bytes = c.args.bytes.now in
    IfOk-weaker c.block_input.result (λ input. input ≡ block_input c.args.level 0 bytes) (IsTop c.args.level bytes)
    (λ input is. rw is (IsTop-one c.args.level bytes c.if-bytes-le-BLOCK.true)) c.block_input.ensures

pub top_input-requires : goal.top_input-requires
top_input-requires t c =
    let is = c.deref.ensures.value ∙ c.in_ok-above.ensures in
    let less = length-up c.args.level c.args.bytes.now c.deref.result.now c.if-bytes-le-BLOCK.false is in
    (omega arith, omega arith)

pub returns : goal.returns
returns t c =
    let bytes = c.args.bytes.now in
    let above = c.deref.result.now in
    IfOk-weaker c.top_input.result (IsTop (c.args.level + 1) above) (IsTop c.args.level bytes)
    (λ input top. IsTop-up c.args.level bytes above input c.if-bytes-le-BLOCK.false (c.deref.ensures.value ∙ c.in_ok-above.ensures) top) c.top_input.ensures
