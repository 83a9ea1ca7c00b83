-- SPDX-License-Identifier: Apache-2.0
pub mod Moves
pub mod Resizes
pub mod Costs
