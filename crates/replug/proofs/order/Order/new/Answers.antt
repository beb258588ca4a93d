use Rattle.replug.proofs.order.Order.new.Goals as goal

-- a socket that stays free has no head in any order
pub returns-in_err-from : goal.returns-in_err-from
returns-in_err-from c =
    let o = c.in_err-from.ensures in
    rw c.from_residual.ensures (λ few from perm. o.2 (from o.0) (perm.from_below o.0 o.1) (perm.forth o.0 o.1))
