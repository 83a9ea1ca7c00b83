-- SPDX-License-Identifier: Apache-2.0
pub mod Peeks
pub mod Visits
pub mod Same
pub mod OnValid
pub mod Samples
pub mod Refusals
