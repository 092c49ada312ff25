use Rattle.std.proofs.Common.{◌≡◌, ◌+ℤ◌, arith}
use Rattle.std.proofs.lemmas.Int.{ints}
use Rattle.book.specs.Meaning.{together}
use Rattle.book.proofs.Sums.{together_more, together_first}
use Rattle.book.proofs.clients.client_money.Goals as goal

pub loop-account-init : goal.loop-account-init
unfolding together
loop-account-init g c = (omega (arith, ints), omega arith)

pub loop-account-preserved : goal.loop-account-preserved
loop-account-preserved g c =
    let l = g.met.B.Book.lawful c.args.book.now in
    let few = l.few in
    let near = l.near c.loop-account.account (omega arith) in
    let more = together_more c.loop-account.account (g.B.Book.meaning c.args.book.now).balance in
    (omega (arith, ints), omega (arith, ints))

-- past account 255 the loop does not come
pub returns : goal.returns
returns g c = absurd (omega arith)

pub returns-2 : goal.returns-2
returns-2 g c =
    let m = g.B.Book.meaning c.args.book.now in
    let l = g.met.B.Book.lawful c.args.book.now in
    let few = l.few in
    let even = l.even in
    let near = l.near c.loop-account.account (omega arith) in
    let last : c.loop-account.account ≡ 255 = omega arith in
    let more : together 256 m.balance ≡ together c.loop-account.account m.balance +ℤ m.balance c.loop-account.account = rw last (together_more 255 m.balance) in
    let first = together_first 255 m.balance in
    record { value = omega (arith, ints); agrees = omega (arith, ints) }
